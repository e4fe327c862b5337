use Rattle.std.proofs.Common.{◌≡◌, take}
use Rattle.loop_program.proofs.schemas.kinds_of.Given as goal

abbrev pub invariant-fields : goal.invariant-fields
invariant-fields l = l.kinds ≡ take l.kind-index l.fields
