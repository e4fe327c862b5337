-- Values, records and their kinds.
use Rattle.std.specs.Prelude.{◌≡◌, List, [], ◌∷◌, ◌++◌, map, FitsSigned}
use Rattle.std.specs.Int.{w64}
use Rattle.std.specs.List.{AllByRecursion}
use Rattle.hal_base.specs.declared.value.Kind.{Kind}
use Rattle.hal_base.specs.declared.value.Kind.TheVariants as kind
use Rattle.hal_base.specs.declared.value.Value.{Value}
use Rattle.hal_base.specs.declared.value.Value.TheVariants.{Int, Text}
use Rattle.hal_base.specs.declared.record.Record.{Record}
use Rattle.hal_base.specs.declared.fields.Schema.{Schema}
use Rattle.hal_base.specs.Text.{IsText}

-- whether it is a number or a text
abbrev pub kind_of : Value → Kind
kind_of (Int _) = kind.Int
kind_of (Text _) = kind.Text

-- a number of 64 bits with sign, or a text
abbrev pub IsValue : Value → Type 0
IsValue (Int n) = FitsSigned w64 n
IsValue (Text bytes) = IsText bytes

-- the pieces of a key: a value alone
abbrev pub key_pieces : Value → List Value
key_pieces key = key ∷ []

-- the kinds of a key's pieces
abbrev pub key_kinds : Kind → List Kind
key_kinds kind = kind ∷ []

-- the values of a record: the pieces of its key, and then its fields
abbrev pub record_values : Record → List Value
record_values row = key_pieces row.key ++ row.fields

-- the kinds of a record's values
abbrev pub schema_kinds : Schema → List Kind
schema_kinds schema = key_kinds schema.key ++ schema.fields

-- the record has the kinds of the schema, in order
pub record FitsSchema (schema : Schema) (row : Record) : Type 0 where
  pub key : kind_of row.key ≡ schema.key
  pub fields : map kind_of row.fields ≡ schema.fields

-- a record of values that fits the schema
pub record IsRecordOf (schema : Schema) (row : Record) : Type 0 where
  pub key : IsValue row.key
  pub fields : AllByRecursion IsValue row.fields
  pub fits : FitsSchema schema row
