use Rattle.std.specs.Prelude.{◌≡◌, ◌++◌, drop}
use Rattle.std.specs.List.{flat_map}
use Rattle.plain_job.specs.Predefined as predefined
use Rattle.predefined_functions.specs.steps.Extended.{Extends}
use Rattle.predefined_functions.proofs.hops.push_each.Given as goal

abbrev pub invariant-distances : goal.invariant-distances
invariant-distances l =
    (l.out ++ flat_map (λ d. flat_map (λ t. predefined.keyed t (predefined.next_of d)) l.targets) (drop l.distance-index l.distances)
    ≡ l.initial.out ++ flat_map (λ d. flat_map (λ t. predefined.keyed t (predefined.next_of d)) l.targets) l.distances)
    × Extends l.initial.out l.out
