-- The limits of a program, in the order of its text.
use Rattle.std.specs.Prelude.{ℕ, zero, suc, cond, Err, nat_le, ℤ, pos, negsuc, Bool, true, false, ◌&&◌, List, [], ◌∷◌, length, Option, None, Some}
use Rattle.function_language.specs.declared.tree.Function.{Function}
use Rattle.function_language.specs.declared.tree.Function.TheVariants.{Map, Reduce, Distance, Partition}
use Rattle.program_tokens.specs.declared.token.Number.{Number}
use Rattle.function_language.specs.declared.tree.Stream.{Stream}
use Rattle.type_checker.specs.Functions.{name_of}
use Rattle.program_sketch.specs.declared.fault.ProgramFault.TheVariants.{At}
use Rattle.program_sketch.specs.declared.fault.What.TheVariants.{Limit}
use Rattle.program_sketch.specs.declared.sketch.InputSketch.{InputSketch}
use Rattle.program_sketch.specs.declared.sketch.StepSketch.{StepSketch}
use Rattle.program_sketch.specs.declared.sketch.TableSketch.{TableSketch}
use Rattle.loop_program.specs.declared.typing.TypedSketch.{TypedSketch}
use Rattle.type_checker.specs.Checked.{◌>>◌, fine}
use Rattle.loop_program.specs.Found.{Found}

-- a limit is broken in this line
abbrev pub refused : ℕ → Found (Unit {0})
refused line = Err (At line Limit)

-- a limit is broken in this line, unless the test passes
abbrev pub expect : Bool → ℕ → Found (Unit {0})
expect test line = cond test fine (refused line)

-- at most so many of these, each of them within its own limits
abbrev pub few : {A : Type 0} → (A → ℕ) → (A → Found (Unit {0})) → ℕ → List A → Found (Unit {0})
few line within most [] = fine
few line within zero (x ∷ xs) = refused (line x)
few line within (suc most) (x ∷ xs) = do
  within x
  few line within most xs

-- a number from 1 to the most
abbrev pub is_count : ℕ → ℤ → Bool
is_count most (pos n) = nat_le 1 n && nat_le n most
is_count most (negsuc n) = false

-- a number is from 1 to the most
abbrev pub counts : ℕ → Number → Found (Unit {0})
counts most number = expect (is_count most number.value) number.line

-- a record has from 1 to 8 values
abbrev pub make_a_record : ℕ → Bool
make_a_record n = nat_le 1 n && nat_le n 8

-- a name is not empty
abbrev pub is_named : List ℕ → Bool
is_named [] = false
is_named (byte ∷ bytes) = true

-- a table has a record's kinds, and its file a name
abbrev pub table_within : TableSketch → Found (Unit {0})
table_within table = do
  expect (make_a_record (length table.row.kinds)) table.name.line
  expect (is_named table.file) table.line

-- a stream has at most 7 kinds
abbrev pub stream_within : Stream → Found (Unit {0})
stream_within stream = expect (nat_le (length stream.kinds) 7) stream.name.line

-- a stream is named at its name
abbrev pub stream_line : Stream → ℕ
stream_line stream = stream.name.line

-- a map has at most 8 parameters, a reduce at most 8 streams, and both emit records
abbrev pub function_within : Function → Found (Unit {0})
function_within (Map name params arrow out body) = do
  expect (make_a_record (length params)) name.line
  expect (make_a_record (length out.kinds)) arrow
function_within (Reduce name key streams arrow out body) = do
  few stream_line stream_within 8 streams
  expect (make_a_record (length out.kinds)) arrow
function_within (Distance name key before after body) = do
  stream_within before
  stream_within after
function_within (Partition name key body) = fine

-- a function is named at its name
abbrev pub function_line : Function → ℕ
function_line function = (name_of function).line

-- a table is named at its name
abbrev pub table_line : TableSketch → ℕ
table_line table = table.name.line

-- the one round in which a table is read
abbrev pub only_within : Option Number → Found (Unit {0})
only_within None = fine
only_within (Some number) = counts 10000 number

-- a table that a step reads is read in every round or in one that a program may have
abbrev pub input_within : InputSketch → Found (Unit {0})
input_within input = only_within input.only

-- it is named at the name of the table
abbrev pub input_line : InputSketch → ℕ
input_line input = input.table.line

-- a step reads at most 7 tables besides its first source
abbrev pub step_within : StepSketch → Found (Unit {0})
step_within step = few input_line input_within 7 step.inputs

-- a step is named at its first word
abbrev pub step_line : StepSketch → ℕ
step_line step = step.line

-- the program keeps the limits
abbrev pub limits : TypedSketch → Found (Unit {0})
limits sketch = do
  counts 64 sketch.parts
  counts 10000 sketch.rounds
  few table_line table_within 16 sketch.tables
  few function_line function_within 64 sketch.functions
  few step_line step_within 8 sketch.steps
