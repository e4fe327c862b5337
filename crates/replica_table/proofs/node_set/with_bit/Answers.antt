use Rattle.replica_table.proofs.Members.{in_with}
use Rattle.replica_table.proofs.node_set.with_bit.Goals as goal

pub returns : goal.returns
returns c = in_with c.args.bits c.args.node c.requires
