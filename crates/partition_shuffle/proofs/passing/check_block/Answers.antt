use Rattle.std.proofs.Common.{Err, None, ap, sym, ◌∙◌, arith}
use Rattle.record_blocks.specs.Blocks.{block_head}
use Rattle.record_blocks.specs.steps.Decoders.{Decodes, after, number}
use Rattle.partition_shuffle.specs.steps.Sections.{Approves, Passes, passed, sorted_block}
use Rattle.partition_shuffle.proofs.Behind.{approved, no_count, no_head, no_rows, too_long}
use Rattle.partition_shuffle.proofs.Exits.{exits}
use Rattle.partition_shuffle.proofs.passing.check_block.Goals as goal

pub returns-in_err-head : goal.returns-in_err-head
returns-in_err-head c =
    let schema = c.args.schema.now in
    let whole = ap (sorted_block schema) (sym c.new-cursor.ensures) in
    exits (λ r. Approves (sorted_block schema c.args.bytes.now) r) (λ f. Decodes {A = Unit {0}} (after (block_head schema) c.new-cursor.result) (Err f) c.head.new.self) c.from_residual.result c.in_err-head.field-0.0 c.from_residual.ensures.1 c.in_err-head.ensures tt
    (λ none. whole ∙ no_head schema c.new-cursor.result none)

pub returns-in_err-count : goal.returns-in_err-count
returns-in_err-count c =
    let schema = c.args.schema.now in
    let whole = ap (sorted_block schema) (sym c.new-cursor.ensures) in
    exits (λ r. Approves (sorted_block schema c.args.bytes.now) r) (λ f. Decodes (number c.head.new.self) (Err f) c.number.new.self) c.from_residual-in_err-count.result c.in_err-count.field-0.0 c.from_residual-in_err-count.ensures.1 c.in_err-count.ensures.decoded tt
    (λ none. whole ∙ no_count schema c.new-cursor.result c.head.new.self c.in_ok-head.ensures none)

pub returns-in_err-pass_rows : goal.returns-in_err-pass_rows
returns-in_err-pass_rows c =
    let schema = c.args.schema.now in
    let whole = ap (sorted_block schema) (sym c.new-cursor.ensures) in
    exits (λ r. Approves (sorted_block schema c.args.bytes.now) r) (λ f. Passes (passed schema None c.in_ok-count.count c.number.new.self) (Err f) c.pass_rows.new.cursor) c.from_residual-in_err-pass_rows.result c.in_err-pass_rows.field-0.0 c.from_residual-in_err-pass_rows.ensures.1 c.in_err-pass_rows.ensures tt
    (λ none. whole ∙ no_rows schema c.in_ok-count.count c.new-cursor.result c.head.new.self c.number.new.self c.in_ok-head.ensures c.in_ok-count.ensures.decoded none)

pub returns-then-len-gt0 : goal.returns-then-len-gt0
returns-then-len-gt0 c =
    let schema = c.args.schema.now in
    ap (sorted_block schema) (sym c.new-cursor.ensures)
    ∙ too_long schema c.in_ok-count.count c.new-cursor.result c.head.new.self c.number.new.self c.in_ok-head.ensures c.in_ok-count.ensures.decoded c.pass_rows.new.cursor c.in_ok-pass_rows.ensures (omega (arith, c.len.ensures, c.if-len-gt0.true))

pub returns : goal.returns
returns c =
    let schema = c.args.schema.now in
    let found = approved schema c.in_ok-count.count c.new-cursor.result c.head.new.self c.number.new.self c.in_ok-head.ensures c.in_ok-count.ensures.decoded c.pass_rows.new.cursor c.in_ok-pass_rows.ensures (omega (arith, c.len.ensures, c.if-len-gt0.false)) in
    (found.0, ap (sorted_block schema) (sym c.new-cursor.ensures) ∙ found.1)
