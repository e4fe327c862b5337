-- The first fault of names and kinds in a program: its tables come first in the text, and then its functions.
use Rattle.std.specs.Prelude.{◌≡◌, ◌⊎◌, ℕ, cond, List, [], ◌∷◌, ◌++◌, Option, None, Some, Err}
use Rattle.std.specs.List.{list_any}
use Rattle.std.specs.Str.{bytes_eq}
use Rattle.type_checker.specs.declared.fault.TypeFault.{TypeFault}
use Rattle.type_checker.specs.declared.fault.TypeFault.TheVariants as fault
use Rattle.type_checker.specs.Functions.{AreTyped, functions_right}
use Rattle.program_sketch.specs.declared.fault.What.{What}
use Rattle.program_sketch.specs.declared.fault.What.TheVariants.{WrongKind, UnknownName, WrongCount, EmitMismatch, DoubleName, StreamMismatch}
use Rattle.program_sketch.specs.declared.sketch.Sketch.{Sketch}
use Rattle.program_sketch.specs.declared.sketch.TableSketch.{TableSketch}
use Rattle.loop_program.specs.declared.typing.TypedSketch.{TypedSketch}

-- the line of the first table whose name is one of these, or that of a table before it
abbrev pub double_table : List (List ℕ) → List TableSketch → Option ℕ
double_table before [] = None
double_table before (table ∷ tables) = cond (list_any (bytes_eq table.name.text) before) (Some table.name.line) (double_table (before ++ table.name.text ∷ []) tables)

-- what is said of a fault of functions
abbrev pub IsSaid : TypeFault → ℕ → What → Type 0
IsSaid (fault.WrongKind function at want got) line what = (line ≡ at) × (what ≡ WrongKind)
IsSaid (fault.UnknownName function at) line what = (line ≡ at) × (what ≡ UnknownName)
IsSaid (fault.WrongCount function at) line what = (line ≡ at) × (what ≡ WrongCount)
IsSaid (fault.EmitMismatch function at) line what = (line ≡ at) × (what ≡ EmitMismatch)
IsSaid (fault.DoubleName function at) line what = (line ≡ at) × (what ≡ DoubleName)
IsSaid (fault.StreamMismatch function at) line what = (line ≡ at) × (what ≡ StreamMismatch)
IsSaid fault.Memory line what = ⊥

-- no table has the name of another, and the functions are typed
pub record AreRight (sketch : Sketch) : Type 0 where
  pub tables : double_table [] sketch.tables ≡ None
  pub functions : AreTyped sketch.functions

-- the first fault of names and kinds is this, in this line
abbrev pub HasFirst : Sketch → ℕ → What → Type 0
HasFirst sketch line what =
    ((double_table [] sketch.tables ≡ Some line) × (what ≡ DoubleName))
    ⊎ ((double_table [] sketch.tables ≡ None) × (found : TypeFault) × (functions_right 0 [] sketch.functions ≡ Err found) × IsSaid found line what)

-- the program with its functions, which are typed
abbrev pub as_typed : Sketch → TypedSketch
as_typed sketch = record {
  name = sketch.name;
  parts = sketch.parts;
  rounds = sketch.rounds;
  stop = sketch.stop;
  asked = sketch.asked;
  tables = sketch.tables;
  functions = sketch.functions;
  start = sketch.start;
  steps = sketch.steps;
}
