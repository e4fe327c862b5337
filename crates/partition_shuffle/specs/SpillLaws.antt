-- The parts of a spill are told by its text.
use Rattle.std.specs.Prelude.{◌≡◌, ℕ, List, Option, slice_get}
use Rattle.hal_base.specs.declared.record.Record.{Record}
use Rattle.hal_base.specs.declared.fields.Schema.{Schema}
use Rattle.record_blocks.specs.Decoded.{Decoded}
use Rattle.partition_shuffle.specs.SpillTexts.{IsSection, IsSpill}

-- what is read of the spill text of some parts is the part of that number, if there is one
abbrev pub SectionIsThePart : Type 0
SectionIsThePart = (schema : Schema) (bytes : List ℕ) (parts : List (List Record)) (part : ℕ) (read : Option (List Record)) → IsSpill schema bytes parts → Decoded (IsSection schema bytes part) read → read ≡ slice_get parts part
