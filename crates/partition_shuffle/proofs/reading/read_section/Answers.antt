use Rattle.std.proofs.Common.{Err}
use Rattle.record_blocks.specs.steps.Decoders.{Decodes, number}
use Rattle.partition_shuffle.specs.steps.Sections.{section}
use Rattle.partition_shuffle.proofs.Behind.{found_section, no_length, too_short}
use Rattle.partition_shuffle.proofs.Exits.{exits}
use Rattle.partition_shuffle.proofs.reading.read_section.Goals as goal

pub returns-in_err-size : goal.returns-in_err-size
returns-in_err-size c =
    let schema = c.args.schema.now in
    exits (λ r. Decodes (section schema c.args.cursor.now) r c.number.new.self) (λ f. Decodes (number c.args.cursor.now) (Err f) c.number.new.self) c.from_residual.result c.in_err-size.field-0.0 c.from_residual.ensures.1 c.in_err-size.ensures.decoded tt
    (λ none. no_length schema c.args.cursor.now none)

pub returns-in-Some : goal.returns-in-Some
returns-in-Some c = found_section c.args.schema.now c.in_ok-size.size c.args.cursor.now c.number.new.self c.in-Some.bytes.now c.bytes.new.self c.in_ok-size.ensures.decoded c.in-Some.ensures c.read_block.result c.read_block.ensures

pub returns-in-None : goal.returns-in-None
returns-in-None c = too_short c.args.schema.now c.in_ok-size.size c.args.cursor.now c.number.new.self c.in_ok-size.ensures.decoded c.in-None.ensures
