use Rattle.std.proofs.Common.{◌≡◌, ◌++◌, drop}
use Rattle.function_eval.proofs.running.Slots.push_copies.Given as goal

abbrev pub invariant-values : goal.invariant-values
invariant-values l = l.self ++ drop l.value-index l.values ≡ l.initial.self ++ l.values
