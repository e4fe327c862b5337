use Rattle.replica_table.proofs.Members.{members_none}
use Rattle.replica_table.proofs.node_set.NodeSet.empty.Goals as goal

pub returns : goal.returns
returns c = members_none
