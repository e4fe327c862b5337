-- What is wrong with a file that no table stands for.
use Rattle.std.specs.Prelude.{◌≡◌, ◌≢◌, ℕ, ◌+◌, ◌<◌, List, ◌∷◌, ◌++◌, map, length}
use Rattle.std.specs.List.{AllByRecursion}
use Rattle.std.specs.Str.Lines.{strip_carriage_return}
use Rattle.hal_base.specs.declared.record.Record.{Record}
use Rattle.hal_base.specs.declared.fields.Schema.{Schema}
use Rattle.hal_base.specs.declared.line.LineFault.{LineFault}
use Rattle.hal_base.specs.declared.line.LineFault.TheVariants as line
use Rattle.hal_base.specs.declared.table.TableFault.{TableFault}
use Rattle.hal_base.specs.declared.table.TableFault.TheVariants.{Line, TooMany, Memory}
use Rattle.hal_base.specs.Values.{IsRecordOf}
use Rattle.hal_base.specs.Lines.{line_of, lines_in}
use Rattle.hal_base.specs.LineFaults.{HasFault}

-- the file has the lines of these records, and then this line
pub record GoesOn (schema : Schema) (bytes : List ℕ) (rows : List Record) (next : List ℕ) : Type 0 where
  pub more : List (List ℕ)
  pub lines : map strip_carriage_return (lines_in bytes) ≡ map line_of rows ++ next ∷ more
  pub records : AllByRecursion (IsRecordOf schema) rows

-- the line after these records is the first with a fault, and has this one
pub record FirstFault (schema : Schema) (bytes : List ℕ) (number : ℕ) (what : LineFault) : Type 0 where
  pub rows : List Record
  pub next : List ℕ
  pub goes_on : GoesOn schema bytes rows next
  pub place : number ≡ length rows + 1
  pub room : length rows < 10000000
  pub fault : HasFault schema next what
  pub named : what ≢ line.Memory

-- there is a line past as many records as a table may have
pub record GoesTooFar (schema : Schema) (bytes : List ℕ) (number : ℕ) : Type 0 where
  pub rows : List Record
  pub next : List ℕ
  pub goes_on : GoesOn schema bytes rows next
  pub full : length rows ≡ 10000000
  pub place : number ≡ 10000001

-- what is wrong with the file: the first line that is no record of the schema, or that there are too many
abbrev pub HasTableFault : Schema → List ℕ → TableFault → Type 0
HasTableFault schema bytes (Line number what) = FirstFault schema bytes number what
HasTableFault schema bytes (TooMany number) = GoesTooFar schema bytes number
HasTableFault schema bytes Memory = Unit {0}
