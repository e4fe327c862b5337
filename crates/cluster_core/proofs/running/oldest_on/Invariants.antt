use Rattle.std.proofs.Common.{◌≡◌, ◌==◌, false, take}
use Rattle.std.specs.List.{list_any}
use Rattle.run_model.specs.declared.attempt.Attempt.{Attempt}
use Rattle.cluster_core.proofs.running.oldest_on.Given as goal

abbrev pub invariant-running : goal.invariant-running
invariant-running l = list_any (λ (a : Attempt). l.node == a.node) (take l.at l.running) ≡ false
