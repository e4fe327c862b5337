use Rattle.std.proofs.Common.{◌∙◌}
use Rattle.function_printing.proofs.PrintingPlaces.{comma_written}
use Rattle.function_printing.proofs.printing.print_behind_commas.Goals as goal

pub items-preserved : goal.items-preserved
items-preserved g c =
    comma_written g.T.Printed.pieces c.args.items.now c.items.item-index c.item-item.result c.items-test.true c.item-item.is c.items.printer c.put.new.self c.print.new.printer c.in_ok-put.ensures c.in_ok-print.ensures
    ∙ c.items.invariant
