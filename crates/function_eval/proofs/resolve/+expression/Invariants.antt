use Rattle.std.proofs.Common.{◌≡◌, ◌++◌, drop, map}
use Rattle.function_eval.specs.steps.Resolved.{slots_in, resolved}
use Rattle.function_eval.proofs.resolve.+expression.Given as goal

abbrev pub invariant-resolve_exprs-exprs : goal.invariant-resolve_exprs-exprs
invariant-resolve_exprs-exprs l = l.made ++ map (resolved (slots_in l.scope)) (drop l.expr-index l.exprs) ≡ map (resolved (slots_in l.scope)) l.exprs
