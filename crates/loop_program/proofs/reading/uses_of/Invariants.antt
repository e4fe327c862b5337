use Rattle.std.proofs.Common.{◌≡◌, map, take}
use Rattle.loop_program.specs.Programs as spec
use Rattle.loop_program.proofs.reading.uses_of.Given as goal

abbrev pub invariant-steps : goal.invariant-steps
invariant-steps l = l.steps ≡ map spec.step_uses (take l.step-index l.step-items)
