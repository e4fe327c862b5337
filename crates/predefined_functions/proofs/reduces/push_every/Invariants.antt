use Rattle.std.specs.Prelude.{◌≡◌, ◌++◌, map, drop}
use Rattle.std.specs.List.{flat_map}
use Rattle.plain_job.specs.Predefined as predefined
use Rattle.predefined_functions.specs.steps.Extended.{Extends}
use Rattle.predefined_functions.proofs.reduces.push_every.Given as goal

abbrev pub invariant-groups : goal.invariant-groups
invariant-groups l =
    (l.out ++ map (λ fields. predefined.made l.key fields) (flat_map (λ group. group) (drop l.group-index l.groups))
    ≡ l.initial.out ++ map (λ fields. predefined.made l.key fields) (flat_map (λ group. group) l.groups))
    × Extends l.initial.out l.out
