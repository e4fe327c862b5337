-- When bytes are the spill text of parts, and when records are a section of it.
use Rattle.std.specs.Prelude.{◌≡◌, ℕ, ◌<◌, ◌^◌, List, ◌++◌, length, codes, Some, slice_get}
use Rattle.std.specs.Int.{w16, to_be_bytes}
use Rattle.std.specs.List.{AllByRecursion, flat_map}
use Rattle.hal_base.specs.declared.record.Record.{Record}
use Rattle.hal_base.specs.declared.fields.Schema.{Schema}
use Rattle.hal_base.specs.Order.{record_cmp}
use Rattle.hal_base.specs.Sorted.{Ascending}
use Rattle.record_blocks.specs.Blocks.{FitBlock, block_text, number_bytes}

-- the section of a part: the length of its block text, and that text
abbrev pub section_text : Schema → List Record → List ℕ
section_text schema rows = number_bytes (length (block_text schema rows)) ++ block_text schema rows

-- the mark of a spill, the number of its parts in two bytes, and the section of each part
abbrev pub spill_text : Schema → List (List Record) → List ℕ
spill_text schema parts = codes "HLS1" ++ (to_be_bytes w16 (length parts) ++ flat_map (section_text schema) parts)

-- records that a section can have: in order, and with a block text of fewer than 2 ^ 64 bytes
pub record FitSection (schema : Schema) (rows : List Record) : Type 0 where
  pub fits : FitBlock schema rows
  pub in_order : Ascending record_cmp rows
  pub short : length (block_text schema rows) < 2 ^ 64

-- the bytes are the spill text of these parts, of which there are fewer than 2 ^ 16
pub record IsSpill (schema : Schema) (bytes : List ℕ) (parts : List (List Record)) : Type 0 where
  pub each : AllByRecursion (FitSection schema) parts
  pub few : length parts < 2 ^ 16
  pub text : bytes ≡ spill_text schema parts

-- the bytes are the spill text of some parts, and the part of this number is these records
pub record IsSection (schema : Schema) (bytes : List ℕ) (part : ℕ) (rows : List Record) : Type 0 where
  pub parts : List (List Record)
  pub spill : IsSpill schema bytes parts
  pub section : slice_get parts part ≡ Some rows
