use Rattle.std.proofs.Common.{subst}
use Rattle.replica_table.specs.Copies.{Replicas}
use Rattle.replica_table.specs.Sets.{Ascend}
use Rattle.replica_table.proofs.table.Table.up.Goals as goal

pub returns-clause-order : goal.returns-clause-order
returns-clause-order c = subst (λ (replicas : Replicas). Ascend 0 replicas.nodes replicas.up) c.self.view_is c.self.invariant.up
