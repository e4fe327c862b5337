-- The part files, written one after another.
use Rattle.std.specs.Prelude.{◌≡◌, ℕ, List, map as each}
use Rattle.std.specs.FinMap as map
use Rattle.hal_base.specs.declared.record.Record.{Record}
use Rattle.hal_base.specs.Lines.{table_text}
use Rattle.hal_outside.specs.Told.{FileMap}
use Rattle.haloop_run.specs.Outputs.{AreFirstOf, part_name, with_parts}

-- a part of this number is written
abbrev pub PartWritten : List ℕ → ℕ → List Record → FileMap → FileMap → Type 0
PartWritten out number rows before after = after ≡ map.insert before (part_name out number) (table_text rows)

-- the parts are written
abbrev pub Written : List ℕ → List (List Record) → FileMap → FileMap → Type 0
Written out parts before after = after ≡ with_parts out 0 (each table_text parts) before

-- the first of the parts are written, of which the last may be there in part
abbrev pub WrittenPart : List ℕ → List (List Record) → FileMap → FileMap → Type 0
WrittenPart out parts before after = (written : List (List ℕ)) × AreFirstOf (each table_text parts) written × (after ≡ with_parts out 0 written before)
