use Rattle.std.proofs.Common.{◌≡◌, ◌+◌, ◌*◌, drop}
use Rattle.std.specs.List.{list_all}
use Rattle.type_checker.specs.Flags.{emits_first}
use Rattle.type_checker.proofs.flags.+first_in_statements.Given as goal

abbrev pub decreases-emits_name_first : goal.decreases-emits_name_first
decreases-emits_name_first l = 3 * goal.size-emits_name_first l

abbrev pub decreases-all_emit_first : goal.decreases-all_emit_first
decreases-all_emit_first l = 3 * goal.size-all_emit_first l + 1

abbrev pub decreases-else_emits_first : goal.decreases-else_emits_first
decreases-else_emits_first l = 3 * goal.size-else_emits_first l + 2

abbrev pub invariant-all_emit_first-statements : goal.invariant-all_emit_first-statements
invariant-all_emit_first-statements l = list_all (emits_first l.name) (drop l.statement-index l.statements) ≡ list_all (emits_first l.name) l.statements
