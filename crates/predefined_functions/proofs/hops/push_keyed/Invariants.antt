use Rattle.std.specs.Prelude.{◌≡◌, ◌++◌, drop}
use Rattle.std.specs.List.{flat_map}
use Rattle.plain_job.specs.Predefined as predefined
use Rattle.predefined_functions.specs.steps.Extended.{Extends}
use Rattle.predefined_functions.proofs.hops.push_keyed.Given as goal

abbrev pub invariant-targets : goal.invariant-targets
invariant-targets l =
    (l.out ++ flat_map (λ target. predefined.keyed target l.next) (drop l.target-index l.targets) ≡ l.initial.out ++ flat_map (λ target. predefined.keyed target l.next) l.targets)
    × Extends l.initial.out l.out
