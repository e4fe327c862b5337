use Rattle.replica_table.proofs.Members.{members_below}
use Rattle.replica_table.proofs.node_set.NodeSet.below.Goals as goal

pub returns : goal.returns
returns c = members_below c.args.nodes c.requires.few
