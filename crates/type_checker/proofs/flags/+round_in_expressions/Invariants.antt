use Rattle.std.proofs.Common.{◌≡◌, drop}
use Rattle.std.specs.List.{list_any}
use Rattle.type_checker.specs.Flags.{has_round}
use Rattle.type_checker.proofs.flags.+round_in_expressions.Given as goal

abbrev pub invariant-any_has_round-exprs : goal.invariant-any_has_round-exprs
invariant-any_has_round-exprs l = list_any has_round (drop l.expr-index l.exprs) ≡ list_any has_round l.exprs
