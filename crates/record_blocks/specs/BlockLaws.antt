-- Records and their block text are told by each other.
use Rattle.std.specs.Prelude.{◌≡◌, ℕ, List, Option, Some}
use Rattle.hal_base.specs.declared.record.Record.{Record}
use Rattle.hal_base.specs.declared.fields.Schema.{Schema}
use Rattle.record_blocks.specs.Blocks.{IsBlock}
use Rattle.record_blocks.specs.Decoded.{Decoded}

-- no bytes are the block text of two lists
abbrev pub BlockIsOfOneList : Type 0
BlockIsOfOneList = (schema : Schema) (bytes : List ℕ) (rows others : List Record) → IsBlock schema bytes rows → IsBlock schema bytes others → others ≡ rows

-- a list has one block text
abbrev pub ListHasOneBlock : Type 0
ListHasOneBlock = (schema : Schema) (bytes others : List ℕ) (rows : List Record) → IsBlock schema bytes rows → IsBlock schema others rows → others ≡ bytes

-- what is decoded of the block text of a list is that list
abbrev pub BlockIsDecoded : Type 0
BlockIsDecoded = (schema : Schema) (bytes : List ℕ) (rows : List Record) (decoded : Option (List Record)) → IsBlock schema bytes rows → Decoded (IsBlock schema bytes) decoded → decoded ≡ Some rows
