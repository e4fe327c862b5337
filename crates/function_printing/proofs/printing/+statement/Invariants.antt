use Rattle.std.proofs.Common.{◌≡◌, ◌+◌, ◌*◌, drop}
use Rattle.std.specs.List.{flat_map}
use Rattle.function_printing.specs.steps.Printer.{ArePlaces, put_all}
use Rattle.function_language.specs.Spelled.{statement_pieces}
use Rattle.function_printing.proofs.printing.+statement.Given as goal

abbrev pub decreases-print_block : goal.decreases-print_block
decreases-print_block l = 4 * l.depth

abbrev pub decreases-print_if : goal.decreases-print_if
decreases-print_if l = 4 * l.depth + 1

abbrev pub decreases-print_for : goal.decreases-print_for
decreases-print_for l = 4 * l.depth + 1

abbrev pub decreases-print_statement : goal.decreases-print_statement
decreases-print_statement l = 4 * l.depth + 2

abbrev pub decreases-print_statements : goal.decreases-print_statements
decreases-print_statements l = 4 * l.depth + 3

abbrev pub invariant-print_statements-statements : goal.invariant-print_statements-statements
invariant-print_statements-statements l = record {
  written : put_all l.printer (flat_map (statement_pieces l.depth) (drop l.statement-index l.statements)) ≡ put_all l.initial.printer (flat_map (statement_pieces l.depth) l.statements);
  places : ArePlaces (flat_map (statement_pieces l.depth) (drop l.statement-index l.statements));
}
