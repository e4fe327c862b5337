use Rattle.std.proofs.Common.{List, None, Some, Option, arith}
use Rattle.hal_base.specs.declared.record.Record.{Record}
use Rattle.hal_base.specs.declared.fields.Schema.{Schema}
use Rattle.std.proofs.Common.{ℕ}
use Rattle.record_blocks.specs.Decoded.{Decoded}
use Rattle.record_blocks.specs.steps.Exact.{AreBytes}
use Rattle.record_blocks.proofs.ExactDecoders.{are_bytes}
use Rattle.partition_shuffle.specs.SpillTexts.{IsSection}
use Rattle.partition_shuffle.specs.steps.Sections.{IsPart, spill}
use Rattle.partition_shuffle.proofs.Spilled.{part_is_section, section_is_part}
use Rattle.partition_shuffle.proofs.reading.section.Goals as goal

picked : (schema : Schema) (bs : List ℕ) (part : ℕ) (read : Option (List Record)) → AreBytes bs → Decoded (IsPart (spill schema bs) part) read → Decoded (IsSection schema bs part) read
picked schema bs part None b d = λ rows is. d rows (section_is_part schema bs part rows is)
picked schema bs part (Some rows) b d = part_is_section schema bs part rows b d

pub returns-in-Ok : goal.returns-in-Ok
returns-in-Ok c = picked c.args.schema.now c.args.bytes.now c.args.part c.in-Ok.rows (are_bytes c.args.bytes.now (λ i. omega (arith, c.type_inv.bytes i))) c.in-Ok.ensures

pub returns-in-Err-Malformed : goal.returns-in-Err-Malformed
returns-in-Err-Malformed c =
    let none = rw c.in-Err-Malformed.field-0-is at c.in-Err-Malformed.ensures in
    λ rows is. none rows (section_is_part c.args.schema.now c.args.bytes.now c.args.part rows is)
