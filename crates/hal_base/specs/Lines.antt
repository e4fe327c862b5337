-- The text of values, records and tables, and when the bytes of a file stand for a table.
use Rattle.std.specs.Prelude.{◌≡◌, ◌==◌, ℕ, ◌≤◌, cond, List, [], ◌∷◌, ◌++◌, map, length}
use Rattle.std.specs.Fmt.{signed_decimal}
use Rattle.std.specs.List.{AllByRecursion, flat_map, join_with_byte, onto_first}
use Rattle.std.specs.Str.Lines.{strip_carriage_return}
use Rattle.hal_base.specs.declared.value.Value.{Value}
use Rattle.hal_base.specs.declared.value.Value.TheVariants.{Int, Text}
use Rattle.hal_base.specs.declared.record.Record.{Record}
use Rattle.hal_base.specs.declared.fields.Schema.{Schema}
use Rattle.hal_base.specs.Values.{IsRecordOf, record_values}

-- a number in digits, with `-` in front where it is negative; a text as it is
abbrev pub value_text : Value → List ℕ
value_text (Int n) = signed_decimal n
value_text (Text bytes) = bytes

-- the pieces of a record's line, the key first
abbrev pub pieces_of : Record → List (List ℕ)
pieces_of row = map value_text (record_values row)

-- the line of a record, without its end: the pieces, parted by tabs
abbrev pub line_of : Record → List ℕ
line_of row = join_with_byte 9 (pieces_of row)

-- the text of a table: the line of each record, ended by LF
abbrev pub table_text : List Record → List ℕ
table_text rows = flat_map (λ row. line_of row ++ 10 ∷ []) rows

-- the lines of a file: each ends before a LF, and what stands after the last LF is a line too, unless that is nothing
abbrev pub lines_in : List ℕ → List (List ℕ)
lines_in [] = []
lines_in (b ∷ bytes) = cond (b == 10) ([] ∷ lines_in bytes) (onto_first b (lines_in bytes))

-- the bytes stand for the table: their lines, each without one CR at its end, are those of its records, in order
pub record StandsFor (schema : Schema) (bytes : List ℕ) (rows : List Record) : Type 0 where
  pub lines : map strip_carriage_return (lines_in bytes) ≡ map line_of rows
  pub records : AllByRecursion (IsRecordOf schema) rows
  pub few : length rows ≤ 10000000

-- records of a schema, no more than a table may have, are what their text stands for
abbrev pub TextStandsForTable : Type 0
TextStandsForTable = (schema : Schema) (rows : List Record) → AllByRecursion (IsRecordOf schema) rows → length rows ≤ 10000000 → StandsFor schema (table_text rows) rows
