use Rattle.std.proofs.Common.{◌≡◌, ◌+◌, ◌*◌, ◌++◌, drop}
use Rattle.function_eval.specs.steps.Resolved.{all_resolved}
use Rattle.function_eval.specs.steps.Resolving.{scope_behind}
use Rattle.function_eval.proofs.resolve.+statement.Given as goal

abbrev pub decreases-resolve_statement : goal.decreases-resolve_statement
decreases-resolve_statement l = 4 * goal.size-resolve_statement l

abbrev pub decreases-resolve_statements : goal.decreases-resolve_statements
decreases-resolve_statements l = 4 * goal.size-resolve_statements l + 1

abbrev pub decreases-resolve_block : goal.decreases-resolve_block
decreases-resolve_block l = 4 * goal.size-resolve_block l + 2

abbrev pub decreases-resolve_else : goal.decreases-resolve_else
decreases-resolve_else l = 4 * goal.size-resolve_else l + 3

abbrev pub decreases-resolve_for : goal.decreases-resolve_for
decreases-resolve_for l = 4 * goal.size-resolve_for l + 3

abbrev pub invariant-resolve_statements-statements : goal.invariant-resolve_statements-statements
invariant-resolve_statements-statements l = record {
  made : l.made ++ all_resolved l.scope (drop l.statement-index l.statements) ≡ all_resolved l.initial.scope l.statements;
  scope : scope_behind l.scope (drop l.statement-index l.statements) ≡ scope_behind l.initial.scope l.statements;
}
