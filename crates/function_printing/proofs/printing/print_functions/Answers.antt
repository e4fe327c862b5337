use Rattle.std.proofs.Common.{◌∙◌, ap}
use Rattle.function_printing.specs.steps.Printer.{Written}
use Rattle.function_language.specs.Spelled.{function_pieces}
use Rattle.function_printing.proofs.PrintingPlaces.{item_places, line_written}
use Rattle.function_printing.proofs.printing.print_functions.Goals as goal

pub print_line-requires-clause-spelled : goal.print_line-requires-clause-spelled
print_line-requires-clause-spelled c = (item_places function_pieces c.as_slice-function-items.result.now c.functions.function-index c.function-item.result c.functions-test.true c.function-item.is c.functions.invariant.places).0

pub functions-preserved : goal.functions-preserved
functions-preserved c = record {
  written =
      line_written c.as_slice-function-items.result.now c.functions.function-index c.function-item.result c.functions-test.true c.function-item.is c.functions.printer c.print_line.new.printer c.in_ok-print_line.ensures
      ∙ c.functions.invariant.written;
  front = ap (λ (w : Written). w.1) c.in_ok-print_line.ensures;
  places = (item_places function_pieces c.as_slice-function-items.result.now c.functions.function-index c.function-item.result c.functions-test.true c.function-item.is c.functions.invariant.places).1;
}
