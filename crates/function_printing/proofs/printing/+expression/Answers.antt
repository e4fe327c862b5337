use Rattle.std.proofs.Common.{◌<◌, ◌∙◌, rules}
use Rattle.std.proofs.lemmas.Result.{on_ok_weaker}
use Rattle.function_language.specs.Spelled.{expr_pieces}
use Rattle.function_printing.proofs.PrintingPlaces.{call_inside, call_places, call_written, comma_places, comma_written, others_places, others_written}
use Rattle.function_printing.proofs.printing.+expression.Goals as goal

pub print_expr-print_call-requires : goal.print_expr-print_call-requires
print_expr-print_call-requires t c = (search rules, call_places c.args.depth c.args.expr.now c.in-Call.name c.in-Call.args c.as_slice.result.now c.in-Call.is c.as_slice.ensures c.requires)

pub print_expr-returns-in_ok-print-in-Call : goal.print_expr-returns-in_ok-print-in-Call
print_expr-returns-in_ok-print-in-Call t c =
    on_ok_weaker c.print_call.result
    (call_written c.args.printer.now c.print-in-Call.new.printer c.print_call.new.printer c.args.depth c.args.expr.now c.in-Call.name c.in-Call.args c.as_slice.result.now c.in-Call.is c.as_slice.ensures c.in_ok-print-in-Call.ensures)
    c.print_call.ensures

pub print_arguments-print_more_arguments-requires : goal.print_arguments-print_more_arguments-requires
print_arguments-print_more_arguments-requires t c = (search rules, (others_places (expr_pieces c.args.depth) c.args.args.now c.first-item.result c.in-len1-up.len_at_least c.first-item.is c.requires).1)

pub print_arguments-returns-in_ok-print_expr-in-len1-up : goal.print_arguments-returns-in_ok-print_expr-in-len1-up
print_arguments-returns-in_ok-print_expr-in-len1-up t c =
    on_ok_weaker c.print_more_arguments.result
    (others_written (expr_pieces c.args.depth) c.args.args.now c.first-item.result c.in-len1-up.len_at_least c.first-item.is c.args.printer.now c.print_expr.new.printer c.print_more_arguments.new.printer c.in_ok-print_expr-in-len1-up.ensures)
    c.print_more_arguments.ensures

pub print_more_arguments-print_expr-requires : goal.print_more_arguments-print_expr-requires
print_more_arguments-print_expr-requires t c =
    (search rules, (comma_places (expr_pieces c.args.depth) c.args.args.now c.args-2.arg-index c.arg-item.result c.args-2-test.true c.arg-item.is c.args-2.invariant.places).0)

pub print_more_arguments-args-2-preserved : goal.print_more_arguments-args-2-preserved
print_more_arguments-args-2-preserved t c = record {
  written =
      comma_written (expr_pieces c.args.depth) c.args.args.now c.args-2.arg-index c.arg-item.result c.args-2-test.true c.arg-item.is c.args-2.printer c.put.new.self c.print_expr.new.printer c.in_ok-put.ensures c.in_ok-print_expr.ensures
      ∙ c.args-2.invariant.written;
  places = (comma_places (expr_pieces c.args.depth) c.args.args.now c.args-2.arg-index c.arg-item.result c.args-2-test.true c.arg-item.is c.args-2.invariant.places).1;
}

pub print_arguments-print_expr-requires : goal.print_arguments-print_expr-requires
print_arguments-print_expr-requires t c = (search rules, (others_places (expr_pieces c.args.depth) c.args.args.now c.first-item.result c.in-len1-up.len_at_least c.first-item.is c.requires).0)

pub print_call-print_arguments-requires : goal.print_call-print_arguments-requires
print_call-print_arguments-requires t c =
    let inside = call_inside c.args.depth c.args.args.now c.requires in
    let opens : 0 < c.args.depth = inside.0 in
    (search rules, inside.1)
