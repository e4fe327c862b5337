use Rattle.std.proofs.Common.{◌≡◌, suc, ◌++◌, drop}
use Rattle.cache_conditions.specs.Conditions.{step_verdicts}
use Rattle.cache_conditions.proofs.judging.push_step.Given as goal

abbrev pub invariant-sources : goal.invariant-sources
invariant-sources l = l.out ++ step_verdicts l.program l.number (suc l.at) (drop l.at l.step.sources) ≡ l.initial.out ++ step_verdicts l.program l.number 1 l.step.sources
