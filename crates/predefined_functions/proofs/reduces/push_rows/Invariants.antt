use Rattle.std.specs.Prelude.{◌≡◌, ◌++◌, map, drop}
use Rattle.plain_job.specs.Predefined as predefined
use Rattle.predefined_functions.specs.steps.Extended.{Extends}
use Rattle.predefined_functions.proofs.reduces.push_rows.Given as goal

abbrev pub invariant-group : goal.invariant-group
invariant-group l =
    (l.out ++ map (λ fields. predefined.made l.key fields) (drop l.fields-index l.group) ≡ l.initial.out ++ map (λ fields. predefined.made l.key fields) l.group)
    × Extends l.initial.out l.out
