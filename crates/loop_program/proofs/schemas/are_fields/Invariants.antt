use Rattle.std.proofs.Common.{◌≡◌, length, map}
use Rattle.loop_program.specs.Schemas as spec
use Rattle.loop_program.specs.Schemas.{kind_taken}
use Rattle.loop_program.proofs.schemas.are_fields.Given as goal

abbrev pub invariant-fields : goal.invariant-fields
invariant-fields l = spec.same_kinds (map kind_taken l.params) l.kinds ≡ spec.same_kinds (map kind_taken l.left) l.wanted

abbrev pub decreases-fields : goal.decreases-fields
decreases-fields l = length l.left
