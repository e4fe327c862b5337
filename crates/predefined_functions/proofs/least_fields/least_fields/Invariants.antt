use Rattle.std.proofs.Common.{◌≡◌, drop, None}
use Rattle.std.specs.Option.{option_copied}
use Rattle.std.specs.List.{flat_map}
use Rattle.plain_job.specs.Predefined.{least_of}
use Rattle.predefined_functions.proofs.least_fields.least_fields.Given as goal

abbrev pub invariant-groups : goal.invariant-groups
invariant-groups l = least_of (option_copied l.least) (flat_map (λ group. group) (drop l.group-index l.groups)) ≡ least_of None (flat_map (λ group. group) l.groups)
