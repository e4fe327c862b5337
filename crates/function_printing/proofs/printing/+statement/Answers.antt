use Rattle.std.proofs.Common.{◌<◌, ◌∙◌, rules}
use Rattle.std.proofs.lemmas.Result.{on_ok_weaker}
use Rattle.function_language.specs.Spelled.{statement_pieces}
use Rattle.function_printing.proofs.PrintingPlaces.{block_inside, test_places, body_places, chosen_places, emit_places, for_places, for_written, give_places, if_places, if_written, item_places, item_written, other_places}
use Rattle.function_printing.proofs.printing.+statement.Goals as goal

pub print_statement-print_if-requires : goal.print_statement-print_if-requires
print_statement-print_if-requires t c = (search rules, if_places c.args.depth c.args.statement.now c.in-If.test c.in-If.yes c.in-If.no c.in-If.is c.requires)

pub print_statement-returns-in-If : goal.print_statement-returns-in-If
print_statement-returns-in-If t c = on_ok_weaker c.print_if.result (if_written c.args.printer.now c.print_if.new.printer c.args.depth c.args.statement.now c.in-If.test c.in-If.yes c.in-If.no c.in-If.is) c.print_if.ensures

pub print_statement-print_for-requires : goal.print_statement-print_for-requires
print_statement-print_for-requires t c = (search rules, for_places c.args.depth c.args.statement.now c.in-For.names c.in-For.stream c.in-For.body c.in-For.is c.requires)

pub print_statement-returns-in-For : goal.print_statement-returns-in-For
print_statement-returns-in-For t c = on_ok_weaker c.print_for.result (for_written c.args.printer.now c.print_for.new.printer c.args.depth c.args.statement.now c.in-For.names c.in-For.stream c.in-For.body c.in-For.is) c.print_for.ensures

pub print_statement-print_emit-requires : goal.print_statement-print_emit-requires
print_statement-print_emit-requires t c = emit_places c.args.depth c.args.statement.now c.in-Emit.line c.in-Emit.args c.as_slice.result.now c.in-Emit.is c.as_slice.ensures c.requires

pub print_statement-print_give-requires : goal.print_statement-print_give-requires
print_statement-print_give-requires t c = give_places c.args.depth c.args.statement.now c.in-Give.line c.in-Give.value c.in-Give.is c.requires

pub print_if-print_block-requires : goal.print_if-print_block-requires
print_if-print_block-requires t c = (search rules, chosen_places c.args.depth c.args.test.now c.args.yes.now c.as_slice.result.now c.args.no.now c.as_slice.ensures c.requires)

pub print_if-print_block-requires-in-Some : goal.print_if-print_block-requires-in-Some
print_if-print_block-requires-in-Some t c =
    (search rules, other_places c.args.depth c.args.test.now c.args.yes.now c.in-Some.other c.as_slice-in-Some.result.now c.args.no.now c.in-Some.is c.as_slice-in-Some.ensures c.requires)

pub print_for-print_block-requires : goal.print_for-print_block-requires
print_for-print_block-requires t c = (search rules, body_places c.args.depth c.args.names.now c.args.stream.now c.args.body.now c.as_slice-2.result.now c.as_slice-2.ensures c.requires)

pub print_statements-print_statement-requires : goal.print_statements-print_statement-requires
print_statements-print_statement-requires t c =
    (search rules, (item_places (statement_pieces c.args.depth) c.args.statements.now c.statements.statement-index c.statement-item.result c.statements-test.true c.statement-item.is c.statements.invariant.places).0)

pub print_statements-statements-preserved : goal.print_statements-statements-preserved
print_statements-statements-preserved t c = record {
  written =
      item_written (statement_pieces c.args.depth) c.args.statements.now c.statements.statement-index c.statement-item.result c.statements-test.true c.statement-item.is c.statements.printer c.print_statement.new.printer c.in_ok-print_statement.ensures
      ∙ c.statements.invariant.written;
  places = (item_places (statement_pieces c.args.depth) c.args.statements.now c.statements.statement-index c.statement-item.result c.statements-test.true c.statement-item.is c.statements.invariant.places).1;
}

pub print_block-print_statements-requires : goal.print_block-print_statements-requires
print_block-print_statements-requires t c =
    let inside = block_inside c.args.depth c.args.block.now c.requires in
    let opens : 0 < c.args.depth = inside.0 in
    (search rules, inside.1)

pub print_if-print_expr-requires : goal.print_if-print_expr-requires
print_if-print_expr-requires t c = test_places c.args.depth c.args.test.now c.args.yes.now c.args.no.now c.requires
