use Rattle.std.proofs.Common.{◌≡◌, ◌++◌, ℕ, None, Option, map, take, drop}
use Rattle.cluster_core.proofs.values.forget.Given as goal

abbrev pub invariant-values : goal.invariant-values
invariant-values l = l.values ≡ map (λ (_ : Option ℕ). None) (take l.at l.fn.values) ++ drop l.at l.fn.values
