use Rattle.std.proofs.Common.{◌≡◌, ◌+◌, ◌*◌, drop, map}
use Rattle.function_printing.specs.steps.Printer.{ArePlaces, put_all}
use Rattle.function_language.specs.Spelled.{expr_pieces}
use Rattle.program_tokens.specs.Pieces.{each_behind_comma}
use Rattle.function_printing.proofs.printing.+expression.Given as goal

abbrev pub decreases-print_call : goal.decreases-print_call
decreases-print_call l = 4 * l.depth

abbrev pub decreases-print_expr : goal.decreases-print_expr
decreases-print_expr l = 4 * l.depth + 1

abbrev pub decreases-print_more_arguments : goal.decreases-print_more_arguments
decreases-print_more_arguments l = 4 * l.depth + 2

abbrev pub decreases-print_arguments : goal.decreases-print_arguments
decreases-print_arguments l = 4 * l.depth + 3

abbrev pub invariant-print_more_arguments-args-2 : goal.invariant-print_more_arguments-args-2
invariant-print_more_arguments-args-2 l = record {
  written : put_all l.printer (each_behind_comma (map (expr_pieces l.depth) (drop l.arg-index l.args))) ≡ put_all l.initial.printer (each_behind_comma (map (expr_pieces l.depth) l.args));
  places : ArePlaces (each_behind_comma (map (expr_pieces l.depth) (drop l.arg-index l.args)));
}
