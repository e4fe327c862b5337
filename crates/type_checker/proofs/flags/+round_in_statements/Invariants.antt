use Rattle.std.proofs.Common.{◌≡◌, ◌+◌, ◌*◌, drop}
use Rattle.std.specs.List.{list_any}
use Rattle.type_checker.specs.Flags.{uses_round}
use Rattle.type_checker.proofs.flags.+round_in_statements.Given as goal

abbrev pub decreases-statement_uses_round : goal.decreases-statement_uses_round
decreases-statement_uses_round l = 3 * goal.size-statement_uses_round l

abbrev pub decreases-any_uses_round : goal.decreases-any_uses_round
decreases-any_uses_round l = 3 * goal.size-any_uses_round l + 1

abbrev pub decreases-else_uses_round : goal.decreases-else_uses_round
decreases-else_uses_round l = 3 * goal.size-else_uses_round l + 2

abbrev pub invariant-any_uses_round-statements : goal.invariant-any_uses_round-statements
invariant-any_uses_round-statements l = list_any uses_round (drop l.statement-index l.statements) ≡ list_any uses_round l.statements
