use Rattle.replica_table.proofs.Members.{in_one}
use Rattle.replica_table.proofs.node_set.bits_of_either.Goals as goal

pub returns : goal.returns
returns c = in_one c.args.bits c.args.others
