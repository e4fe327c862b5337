use Rattle.std.proofs.Common.{◌≡◌, drop}
use Rattle.type_checker.specs.Statements.{all_after}
use Rattle.type_checker.proofs.statement.+statement.Given as goal

abbrev pub invariant-check_statements-statements : goal.invariant-check_statements-statements
invariant-check_statements-statements l = all_after l.setting l.scope (drop l.statement-index l.statements) ≡ all_after l.setting l.initial.scope l.statements
