use Rattle.std.proofs.Common.{◌==◌, eq-eqb}
use Rattle.run_model.specs.declared.attempt.Attempt.{Attempt}
use Rattle.cluster_core.proofs.Places.{first_here}
use Rattle.cluster_core.proofs.running.oldest_on.Goals as goal

pub returns-then-node-running : goal.returns-then-node-running
returns-then-node-running c = first_here (λ (a : Attempt). c.args.node == a.node) c.args.running.now c.running.at _ c.running-test.true c.running.invariant (eq-eqb _ _ c.if-node-running.true)
