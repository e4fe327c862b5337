use Rattle.std.proofs.Common.{◌≡◌, suc, ◌++◌, drop}
use Rattle.cache_conditions.specs.Conditions.{steps_verdicts}
use Rattle.cache_conditions.proofs.judging.conditions.Given as goal

abbrev pub invariant-steps : goal.invariant-steps
invariant-steps l = l.sources ++ steps_verdicts l.program (suc l.at) (drop l.at l.program.shape.steps) ≡ steps_verdicts l.program 1 l.program.shape.steps
