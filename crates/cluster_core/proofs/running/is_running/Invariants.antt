use Rattle.std.proofs.Common.{◌≡◌, drop}
use Rattle.std.specs.List.{list_any}
use Rattle.run_model.specs.Tasks.{is_task}
use Rattle.run_model.specs.declared.attempt.Attempt.{Attempt}
use Rattle.cluster_core.proofs.running.is_running.Given as goal

abbrev pub invariant-running : goal.invariant-running
invariant-running l = list_any (λ (a : Attempt). is_task l.fn.task a.task) (drop l.attempt-index l.running) ≡ list_any (λ (a : Attempt). is_task l.fn.task a.task) l.running
