use Rattle.std.proofs.Common.{◌≡◌, ◌-◌, drop, length}
use Rattle.run_model.specs.Advance.{passed}
use Rattle.cluster_core.proofs.advancing.passed_until.Given as goal

abbrev pub invariant-events : goal.invariant-events
invariant-events l = passed l.round (drop l.at l.events) ≡ passed l.round (drop l.fn.spent l.events)

abbrev pub decreases-events : goal.decreases-events
decreases-events l = length l.events - l.at
