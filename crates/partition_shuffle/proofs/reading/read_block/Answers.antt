use Rattle.std.proofs.Common.{Err, ap, sym, ◌∙◌, arith}
use Rattle.record_blocks.specs.steps.Decoders.{Decodes, block}
use Rattle.partition_shuffle.specs.steps.Sections.{Finds, sorted_block}
use Rattle.partition_shuffle.proofs.Behind.{block_sorted, block_too_long, block_unsorted, no_block}
use Rattle.partition_shuffle.proofs.Exits.{exits}
use Rattle.partition_shuffle.proofs.Neighbours.{sorted_in_order, unsorted_in_no_order}
use Rattle.partition_shuffle.proofs.reading.read_block.Goals as goal

pub returns-in_err-rows : goal.returns-in_err-rows
returns-in_err-rows c =
    let schema = c.args.schema.now in
    let whole = ap (sorted_block schema) (sym c.new-cursor.ensures) in
    exits (λ r. Finds (sorted_block schema c.args.bytes.now) r) (λ f. Decodes (block schema c.new-cursor.result) (Err f) c.block.new.self) c.from_residual.result c.in_err-rows.field-0.0 c.from_residual.ensures.1 c.in_err-rows.ensures tt
    (λ none. whole ∙ no_block schema c.new-cursor.result none)

pub returns-then-len-gt0 : goal.returns-then-len-gt0
returns-then-len-gt0 c =
    let schema = c.args.schema.now in
    ap (sorted_block schema) (sym c.new-cursor.ensures)
    ∙ block_too_long schema c.new-cursor.result c.in_ok-rows.rows c.block.new.self c.in_ok-rows.ensures (omega (arith, c.len.ensures, c.if-len-gt0.true))

pub returns-then-not-is_sorted : goal.returns-then-not-is_sorted
returns-then-not-is_sorted c =
    let schema = c.args.schema.now in
    ap (sorted_block schema) (sym c.new-cursor.ensures)
    ∙ block_unsorted schema c.new-cursor.result c.in_ok-rows.rows c.block.new.self c.in_ok-rows.ensures (unsorted_in_no_order c.in_ok-rows.rows (rw (← c.as_slice.ensures) c.if-not-is_sorted.ensures.cases))

pub returns : goal.returns
returns c =
    let schema = c.args.schema.now in
    ap (sorted_block schema) (sym c.new-cursor.ensures)
    ∙ block_sorted schema c.new-cursor.result c.in_ok-rows.rows c.block.new.self c.in_ok-rows.ensures (omega (arith, c.len.ensures, c.if-len-gt0.false)) (sorted_in_order c.in_ok-rows.rows (rw (← c.as_slice.ensures) c.if-not-is_sorted.ensures.cases))
