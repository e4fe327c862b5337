-- Programs that are accepted, and why others are refused.
use Rattle.std.specs.Prelude.{◌≡◌, ◌⊎◌, ℕ, ℤ, pos, negsuc, Bool, true, false, List, [], map, Ok, Err, slice_get}
use Rattle.hal_base.specs.declared.shape.Shape.{Shape}
use Rattle.hal_base.specs.declared.shape.Step.{Step}
use Rattle.hal_base.specs.declared.fields.Schema.{Schema}
use Rattle.type_checker.specs.declared.uses.UseStep.{UseStep}
use Rattle.type_checker.specs.declared.uses.Uses.{Uses}
use Rattle.program_sketch.specs.Programs.{IsMisspelled, IsProgramText}
use Rattle.program_sketch.specs.declared.fault.ProgramFault.{ProgramFault}
use Rattle.program_sketch.specs.declared.fault.ProgramFault.TheVariants.{At, Memory}
use Rattle.program_sketch.specs.declared.fault.What.{What}
use Rattle.program_sketch.specs.declared.fault.What.TheVariants.{SchemaMismatch}
use Rattle.program_sketch.specs.declared.sketch.Sketch.{Sketch}
use Rattle.program_sketch.specs.declared.sketch.StopSketch.{StopSketch}
use Rattle.program_sketch.specs.declared.sketch.StopSketch.TheVariants.{Exact, Below}
use Rattle.program_sketch.specs.declared.sketch.TableSketch.{TableSketch}
use Rattle.loop_program.specs.declared.places.NamedSource.{NamedSource}
use Rattle.loop_program.specs.declared.places.NamedStep.{NamedStep}
use Rattle.loop_program.specs.declared.places.Places.{Places}
use Rattle.loop_program.specs.declared.typing.TypedSketch.{TypedSketch}
use Rattle.type_checker.specs.Checked.{◌>>=◌, ◌>>◌}
use Rattle.loop_program.specs.Caches.{cached}
use Rattle.loop_program.specs.Found.{Found, demand, each, or_wrong}
use Rattle.loop_program.specs.Limits.{limits}
use Rattle.loop_program.specs.Places.{count_of, places}
use Rattle.loop_program.specs.Schemas.{distance_takes, last_line, last_schema, same_schema, steps_typed, table_schema}
use Rattle.loop_program.specs.Whole.{Whole}
use Rattle.loop_program.specs.Types.{AreRight, HasFirst, as_typed}

-- ---- what an accepted program is

-- the program stops exactly
abbrev pub is_exact : StopSketch → Bool
is_exact Exact = true
is_exact (Below threshold by) = false

-- a number that is not negative
abbrev pub natural_of : ℤ → ℕ
natural_of (pos n) = n
natural_of (negsuc n) = 0

-- the distance below which the program stops
abbrev pub threshold_of : StopSketch → ℕ
threshold_of Exact = 1
threshold_of (Below threshold by) = natural_of threshold.value

-- the functions that a step uses
abbrev pub step_uses : NamedStep → UseStep
step_uses step = record { maps = map (λ (source : NamedSource). source.map.what) step.sources; reduce = step.reduce.what; partition = step.partition.what }

-- the functions that all steps use, and the distance
abbrev pub uses_of : Places → Uses
uses_of found = record { steps = map step_uses found.steps; distance = found.distance.what }

-- the shape of these steps; its start is the table of this number, and its state has the reducer output cache or not
abbrev pub shape_of : TypedSketch → ℕ → List Schema → List Step → Bool → Shape
shape_of sketch start tables steps output = record {
  parts = count_of sketch.parts.value;
  rounds = count_of sketch.rounds.value;
  exact = is_exact sketch.stop;
  threshold = threshold_of sketch.stop;
  start = start;
  tables = tables;
  blocks = [];
  steps = steps;
  reducer_output = output;
}

-- the program of a sketch, of what its names stand for, and of its schemas, without caches
abbrev pub whole : TypedSketch → Places → List Schema → List Step → Whole
whole sketch found tables steps = record {
  functions = sketch.functions;
  uses = uses_of found;
  shape = shape_of sketch found.start tables steps false;
  names = map (λ (table : TableSketch). table.name.text) sketch.tables;
  files = map (λ (table : TableSketch). table.file) sketch.tables;
  asked = sketch.asked;
}

-- the schemas of all streams: those of the steps, then the last output against the start table, then the distance
abbrev pub schemas : TypedSketch → Places → List Schema → Found (List Step)
schemas sketch found tables = do
  state ← or_wrong (slice_get tables found.start) sketch.start.line SchemaMismatch
  steps ← steps_typed sketch.functions tables state state found.steps
  demand (same_schema (last_schema state steps) state) (last_line 0 found.steps) SchemaMismatch
  demand (distance_takes sketch.functions found.distance.what state) found.distance.line SchemaMismatch
  Ok steps

-- a typed program: its limits, then its names, then its schemas; it has the caches that no word refuses
abbrev pub accepted : TypedSketch → Found Whole
accepted sketch = do
  limits sketch
  found ← places sketch
  tables ← each table_schema sketch.tables
  steps ← schemas sketch found tables
  Ok (cached (whole sketch found tables steps))

-- ---- texts

-- the text is that of a program in which no fault is found, and which is this
abbrev pub IsTextOfProgram : List ℕ → Whole → Type 0
IsTextOfProgram text program = (sketch : Sketch) × IsProgramText text sketch × AreRight sketch × (accepted (as_typed sketch) ≡ Ok program)

-- the first fault of a program that is well spelled: of its names and kinds, or else of its limits, the names in its steps, its schemas
abbrev pub IsFaulty : Sketch → ℕ → What → Type 0
IsFaulty sketch line what = HasFirst sketch line what ⊎ (AreRight sketch × (accepted (as_typed sketch) ≡ Err (At line what)))

-- what is wrong with the text in this line: its spelling, or else the first fault of its program
abbrev pub HasWrong : List ℕ → ℕ → What → Type 0
HasWrong text line what = IsMisspelled text line what ⊎ ((sketch : Sketch) × IsProgramText text sketch × IsFaulty sketch line what)

-- the text is that of this program and of no other, and nothing is wrong with it
pub record IsJustProgram (text : List ℕ) (program : Whole) : Type 0 where
  pub is : IsTextOfProgram text program
  pub only : (other : Whole) → IsTextOfProgram text other → other ≡ program
  pub right : (line : ℕ) (what : What) → HasWrong text line what → ⊥

-- why the text is refused: something is wrong with it, and it is that of no program
abbrev pub IsRefusedBy : List ℕ → ProgramFault → Type 0
IsRefusedBy text (At line what) = HasWrong text line what × ((program : Whole) → IsTextOfProgram text program → ⊥)
IsRefusedBy text Memory = Unit {0}

-- ---- laws

-- one thing is wrong with a text, in one line
abbrev pub OneThingIsWrong : Type 0
OneThingIsWrong = (text : List ℕ) (line other : ℕ) (what wrong : What) → HasWrong text line what → HasWrong text other wrong → (other ≡ line) × (wrong ≡ what)
