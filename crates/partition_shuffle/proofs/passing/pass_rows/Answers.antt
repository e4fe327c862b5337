use Rattle.std.proofs.Common.{Err, None, sym, ◌∙◌, arith}
use Rattle.record_blocks.specs.steps.Decoders.{Decodes}
use Rattle.partition_shuffle.specs.steps.Sections.{Passes, next_row, passed}
use Rattle.partition_shuffle.proofs.Behind.{all_rows_passed, no_row_passed, row_passed}
use Rattle.partition_shuffle.proofs.Exits.{exits}
use Rattle.partition_shuffle.proofs.passing.pass_rows.Goals as goal

pub returns-in_err-next_row : goal.returns-in_err-next_row
returns-in_err-next_row c =
    let schema = c.args.schema.now in
    exits (λ r. Passes (passed schema None c.args.count c.args.cursor.now) r c.next_row.new.cursor) (λ f. Decodes (next_row schema c.rows.before c.rows.cursor) (Err f) c.next_row.new.cursor) c.from_residual.result c.in_err-next_row.field-0.0 c.from_residual.ensures.1 c.in_err-next_row.ensures tt
    (λ none. sym c.rows.invariant ∙ no_row_passed schema c.rows.before c.rows.left c.rows.cursor c.rows-test.true none)

pub rows-preserved : goal.rows-preserved
rows-preserved c = sym (row_passed c.args.schema.now c.rows.before c.rows.left c.rows.cursor c.next_row.new.cursor c.in_ok-next_row.field-0 c.rows-test.true c.in_ok-next_row.ensures) ∙ c.rows.invariant

pub returns : goal.returns
returns c = sym c.rows.invariant ∙ all_rows_passed c.args.schema.now c.rows.before c.rows.left c.rows.cursor (omega (arith, c.rows-test.false))
