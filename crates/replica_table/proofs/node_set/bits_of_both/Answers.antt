use Rattle.replica_table.proofs.Members.{in_both}
use Rattle.replica_table.proofs.node_set.bits_of_both.Goals as goal

pub returns : goal.returns
returns c = in_both c.args.bits c.args.others
