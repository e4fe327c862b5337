use Rattle.std.proofs.lemmas.Result.{on_ok_weaker}
use Rattle.function_printing.proofs.PrintingPlaces.{others_written}
use Rattle.function_printing.proofs.printing.print_separated.Goals as goal

pub returns-in_ok-print-in-len1-up : goal.returns-in_ok-print-in-len1-up
returns-in_ok-print-in-len1-up g c =
    on_ok_weaker c.print_behind_commas.result
    (others_written g.T.Printed.pieces c.args.items.now c.first-item.result c.in-len1-up.len_at_least c.first-item.is c.args.printer.now c.print.new.printer c.print_behind_commas.new.printer c.in_ok-print-in-len1-up.ensures)
    c.print_behind_commas.ensures
