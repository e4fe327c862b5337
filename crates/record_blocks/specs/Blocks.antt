-- The bytes of values and records, and when bytes are the block text of records.
use Rattle.std.specs.Prelude.{◌≡◌, ℕ, ◌+◌, ◌<◌, ◌^◌, List, ◌∷◌, ◌++◌, map, length, codes}
use Rattle.std.specs.Int.{w64, to_be_bytes, cast_unsigned}
use Rattle.std.specs.List.{AllByRecursion, flat_map}
use Rattle.hal_base.specs.declared.value.Kind.{Kind}
use Rattle.hal_base.specs.declared.value.Kind.TheVariants as kind
use Rattle.hal_base.specs.declared.value.Value.{Value}
use Rattle.hal_base.specs.declared.value.Value.TheVariants.{Int, Text}
use Rattle.hal_base.specs.declared.record.Record.{Record}
use Rattle.hal_base.specs.declared.fields.Schema.{Schema}
use Rattle.hal_base.specs.Values.{IsRecordOf}

-- a number in two's complement, in eight bytes with the most significant first; the length of a text in one byte, and its bytes
abbrev pub value_bytes : Value → List ℕ
value_bytes (Int n) = to_be_bytes w64 (cast_unsigned w64 n)
value_bytes (Text bytes) = length bytes ∷ bytes

-- the bytes of the key, and then of the fields
abbrev pub record_bytes : Record → List ℕ
record_bytes row = value_bytes row.key ++ flat_map value_bytes row.fields

-- the letter of a kind: I or T
abbrev pub kind_byte : Kind → ℕ
kind_byte kind.Int = 0x49
kind_byte kind.Text = 0x54

-- what a block of the schema begins with: its mark, the number of its kinds, and the byte of each, the key's first
abbrev pub block_head : Schema → List ℕ
block_head schema = codes "HLB1" ++ (length schema.fields + 1) ∷ map kind_byte (schema.key ∷ schema.fields)

-- a count in eight bytes, the most significant first
abbrev pub number_bytes : ℕ → List ℕ
number_bytes n = to_be_bytes w64 n

-- the head, the number of records, and the bytes of each
abbrev pub block_text : Schema → List Record → List ℕ
block_text schema rows = block_head schema ++ (number_bytes (length rows) ++ flat_map record_bytes rows)

-- records of the schema that a block can have: fewer than 2 ^ 64
pub record FitBlock (schema : Schema) (rows : List Record) : Type 0 where
  pub each : AllByRecursion (IsRecordOf schema) rows
  pub few : length rows < 2 ^ 64

-- the bytes are the block text of these records of the schema
pub record IsBlock (schema : Schema) (bytes : List ℕ) (rows : List Record) : Type 0 where
  pub records : FitBlock schema rows
  pub text : bytes ≡ block_text schema rows
