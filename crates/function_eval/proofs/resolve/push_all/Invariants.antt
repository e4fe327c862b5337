use Rattle.std.proofs.Common.{◌≡◌, ◌++◌, drop, map}
use Rattle.function_eval.proofs.resolve.push_all.Given as goal

abbrev pub invariant-items : goal.invariant-items
invariant-items g l = l.names ++ map g.T.Named.name (drop l.item-index l.items) ≡ l.initial.names ++ map g.T.Named.name l.items
