use Rattle.replica_table.proofs.Members.{members_either}
use Rattle.replica_table.proofs.node_set.NodeSet.either.Goals as goal

pub returns : goal.returns
returns c = members_either c.args.self.now.0 c.args.other.0 c.bits_of_either.result c.bits_of_either.ensures
