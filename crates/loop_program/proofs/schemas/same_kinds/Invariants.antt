use Rattle.std.proofs.Common.{◌≡◌, length}
use Rattle.loop_program.specs.Schemas as spec
use Rattle.loop_program.proofs.schemas.same_kinds.Given as goal

abbrev pub invariant-kinds : goal.invariant-kinds
invariant-kinds l = spec.same_kinds l.some l.others ≡ spec.same_kinds l.left l.wanted

abbrev pub decreases-kinds : goal.decreases-kinds
decreases-kinds l = length l.left
