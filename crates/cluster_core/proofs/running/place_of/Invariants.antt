use Rattle.std.proofs.Common.{◌≡◌, false, take}
use Rattle.std.specs.List.{list_any}
use Rattle.run_model.specs.Tasks.{is_task}
use Rattle.run_model.specs.declared.attempt.Failed.{Failed}
use Rattle.cluster_core.proofs.running.place_of.Given as goal

abbrev pub invariant-failures : goal.invariant-failures
invariant-failures l = list_any (λ (f : Failed). is_task l.fn.task f.task) (take l.at l.failures) ≡ false
