use Rattle.std.proofs.Common.{◌≡◌, ◌≤◌, ◌==◌, take}
use Rattle.run_model.specs.Lists.{number_of}
use Rattle.run_model.specs.declared.attempt.Attempt.{Attempt}
use Rattle.cluster_core.proofs.running.load.Given as goal

abbrev pub invariant-running : goal.invariant-running
invariant-running l = (l.count ≡ number_of (λ (a : Attempt). l.node == a.node) (take l.attempt-index l.running)) × (l.count ≤ l.attempt-index)
