use Rattle.replica_table.proofs.Members.{members_with}
use Rattle.replica_table.proofs.node_set.NodeSet.with.Goals as goal

pub returns : goal.returns
returns c = members_with c.args.self.now.0 c.with_bit.result c.args.node c.requires c.with_bit.ensures
