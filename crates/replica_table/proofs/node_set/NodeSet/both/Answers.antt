use Rattle.replica_table.proofs.Members.{members_both}
use Rattle.replica_table.proofs.node_set.NodeSet.both.Goals as goal

pub returns : goal.returns
returns c = members_both c.args.self.now.0 c.args.other.0 c.bits_of_both.result c.bits_of_both.ensures
