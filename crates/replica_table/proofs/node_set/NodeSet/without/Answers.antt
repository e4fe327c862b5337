use Rattle.replica_table.proofs.Members.{members_without}
use Rattle.replica_table.proofs.node_set.NodeSet.without.Goals as goal

pub returns : goal.returns
returns c = members_without c.args.self.now.0 c.without_bit.result c.args.node c.without_bit.ensures
