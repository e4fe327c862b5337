use Rattle.std.proofs.Common.{Err, ap, sym, ◌∙◌, codes, arith, subst}
use Rattle.record_blocks.specs.steps.Decoders.{Decodes, after, many, short}
use Rattle.partition_shuffle.specs.steps.Sections.{IsPart, Picks, PicksAmong, section, spill}
use Rattle.partition_shuffle.proofs.Exits.{exits}
use Rattle.partition_shuffle.proofs.Spilled.{no_count, no_mark, none_past, none_read, spill_by_parts}
use Rattle.partition_shuffle.proofs.reading.picked.Goals as goal

pub returns-in_err-expect : goal.returns-in_err-expect
returns-in_err-expect c =
    let schema = c.args.schema.now in
    let whole = ap (spill schema) (sym c.new-cursor.ensures) in
    exits (λ r. Picks (spill schema c.args.bytes.now) c.args.part r) (λ f. Decodes {A = Unit {0}} (after (codes "HLS1") c.new-cursor.result) (Err f) c.expect.new.self) c.from_residual.result c.in_err-expect.field-0.0 c.from_residual.ensures.1 c.in_err-expect.ensures.decoded tt
    (λ none rows is. none_read (spill schema c.args.bytes.now) c.args.part rows (whole ∙ no_mark schema c.new-cursor.result none) is)

pub returns-in_err-count : goal.returns-in_err-count
returns-in_err-count c =
    let schema = c.args.schema.now in
    let whole = ap (spill schema) (sym c.new-cursor.ensures) in
    exits (λ r. Picks (spill schema c.args.bytes.now) c.args.part r) (λ f. Decodes (short c.expect.new.self) (Err f) c.short.new.self) c.from_residual-in_err-count.result c.in_err-count.field-0.0 c.from_residual-in_err-count.ensures.1 c.in_err-count.ensures.decoded tt
    (λ none rows is. none_read (spill schema c.args.bytes.now) c.args.part rows (whole ∙ no_count schema c.new-cursor.result c.expect.new.self c.in_ok-expect.ensures.decoded none) is)

pub returns-then-part-from : goal.returns-then-part-from
returns-then-part-from c =
    let schema = c.args.schema.now in
    let whole = ap (spill schema) (sym c.new-cursor.ensures) ∙ spill_by_parts schema c.in_ok-count.count c.new-cursor.result c.expect.new.self c.short.new.self c.in_ok-expect.ensures.decoded c.in_ok-count.ensures.decoded in
    λ rows is. none_past schema c.in_ok-count.count c.args.part c.args.bytes.now c.short.new.self rows whole (omega (arith, c.from.ensures, c.if-part-from.true)) is

pub returns-in_err-rows : goal.returns-in_err-rows
returns-in_err-rows c =
    let schema = c.args.schema.now in
    let whole = ap (spill schema) (sym c.new-cursor.ensures) ∙ spill_by_parts schema c.in_ok-count.count c.new-cursor.result c.expect.new.self c.short.new.self c.in_ok-expect.ensures.decoded c.in_ok-count.ensures.decoded ∙ ap (λ n. many (section schema) n c.short.new.self) (sym c.from-2.ensures) in
    exits (λ r. Picks (spill schema c.args.bytes.now) c.args.part r) (λ f. PicksAmong (many (section schema) c.from-2.result c.short.new.self) c.args.part (Err f)) c.from_residual-in_err-rows.result c.in_err-rows.field-0.0 c.from_residual-in_err-rows.ensures.1 c.in_err-rows.ensures tt
    (λ none rows is. none is.parts (sym whole ∙ is.whole))

pub returns : goal.returns
returns c =
    let schema = c.args.schema.now in
    let whole = ap (spill schema) (sym c.new-cursor.ensures) ∙ spill_by_parts schema c.in_ok-count.count c.new-cursor.result c.expect.new.self c.short.new.self c.in_ok-expect.ensures.decoded c.in_ok-count.ensures.decoded ∙ ap (λ n. many (section schema) n c.short.new.self) (sym c.from-2.ensures) in
    subst (λ read. IsPart read c.args.part c.in_ok-rows.rows) (sym whole) c.in_ok-rows.ensures
