use Rattle.std.proofs.Common.{sym, ◌∙◌}
use Rattle.run_model.specs.Tasks.{is_task}
use Rattle.run_model.specs.declared.attempt.Failed.{Failed}
use Rattle.cluster_core.proofs.Places.{first_here}
use Rattle.cluster_core.proofs.running.place_of.Goals as goal

pub returns-then-eq : goal.returns-then-eq
returns-then-eq c = first_here (λ (f : Failed). is_task c.args.task.now f.task) c.args.failures.now c.failures.at _ c.failures-test.true c.failures.invariant (sym c.eq.ensures ∙ c.if-eq.true)
