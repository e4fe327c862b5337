use Rattle.replica_table.proofs.Ordered.{names_keep}
use Rattle.replica_table.proofs.laws.names_keep_their_order.Goals as goal

pub returns : goal.returns
returns c = names_keep
