use Rattle.std.proofs.Common.{◌≡◌, map, take}
use Rattle.function_eval.specs.steps.Resolved.{function_resolved}
use Rattle.function_eval.proofs.evaluator.resolve_functions.Given as goal

abbrev pub invariant-functions : goal.invariant-functions
invariant-functions l = l.made ≡ map function_resolved (take l.function-index l.function-items)
