use Rattle.replica_table.proofs.Members.{in_without}
use Rattle.replica_table.proofs.node_set.without_bit.Goals as goal

pub returns : goal.returns
returns c = in_without c.args.bits c.args.node c.requires
