use Rattle.std.proofs.Common.{◌≡◌, ◌++◌, drop, false}
use Rattle.function_printing.specs.steps.Printer.{ArePlaces}
use Rattle.function_printing.specs.Printing.{tree_text}
use Rattle.function_language.specs.Spelled.{functions_pieces}
use Rattle.function_printing.proofs.printing.print_functions.Given as goal

abbrev pub invariant-functions : goal.invariant-functions
invariant-functions l = record {
  written : l.printer.0 ++ tree_text (drop l.function-index l.function-items) ≡ tree_text l.function-items;
  front : l.printer.1 ≡ false;
  places : ArePlaces (functions_pieces (drop l.function-index l.function-items));
}
