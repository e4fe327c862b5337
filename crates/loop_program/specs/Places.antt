-- What the names in a program's steps stand for, in the order of its text.
use Rattle.std.specs.Prelude.{ℕ, min, ℤ, pos, negsuc, Bool, true, false, cond, ◌&&◌, List, [], ◌∷◌, Option, None, Some, Ok, codes}
use Rattle.std.specs.List.{position}
use Rattle.std.specs.Str.{bytes_eq}
use Rattle.hal_base.specs.declared.shape.Origin.{Origin}
use Rattle.hal_base.specs.declared.shape.Origin.TheVariants.{State, Prev, Table}
use Rattle.function_language.specs.declared.tree.Function.{Function}
use Rattle.function_language.specs.declared.tree.Function.TheVariants.{Map, Reduce, Distance, Partition}
use Rattle.program_tokens.specs.declared.token.Ident.{Ident}
use Rattle.program_tokens.specs.declared.token.Number.{Number}
use Rattle.type_checker.specs.Functions.{name_of}
use Rattle.type_checker.specs.declared.uses.Use.{Use}
use Rattle.type_checker.specs.declared.uses.Use.TheVariants as a_use
use Rattle.program_sketch.specs.declared.fault.What.TheVariants.{UnknownName, UnknownTable}
use Rattle.program_sketch.specs.declared.sketch.InputSketch.{InputSketch}
use Rattle.program_sketch.specs.declared.sketch.StepSketch.{StepSketch}
use Rattle.program_sketch.specs.declared.sketch.StopSketch.{StopSketch}
use Rattle.program_sketch.specs.declared.sketch.StopSketch.TheVariants.{Exact, Below}
use Rattle.program_sketch.specs.declared.sketch.TableSketch.{TableSketch}
use Rattle.loop_program.specs.declared.places.Named.{Named}
use Rattle.loop_program.specs.declared.places.NamedSource.{NamedSource}
use Rattle.loop_program.specs.declared.places.NamedStep.{NamedStep}
use Rattle.loop_program.specs.declared.places.Places.{Places}
use Rattle.loop_program.specs.declared.places.Sort.{Sort}
use Rattle.loop_program.specs.declared.places.Sort.TheVariants as sort
use Rattle.loop_program.specs.declared.typing.TypedSketch.{TypedSketch}
use Rattle.type_checker.specs.Checked.{◌>>=◌}
use Rattle.loop_program.specs.Found.{Found, each, or_wrong}

-- a function is of this sort
abbrev pub is_of : Sort → Function → Bool
is_of sort.Map (Map name params arrow out body) = true
is_of sort.Map (Reduce name key streams arrow out body) = false
is_of sort.Map (Distance name key before after body) = false
is_of sort.Map (Partition name key body) = false
is_of sort.Reduce (Map name params arrow out body) = false
is_of sort.Reduce (Reduce name key streams arrow out body) = true
is_of sort.Reduce (Distance name key before after body) = false
is_of sort.Reduce (Partition name key body) = false
is_of sort.Distance (Map name params arrow out body) = false
is_of sort.Distance (Reduce name key streams arrow out body) = false
is_of sort.Distance (Distance name key before after body) = true
is_of sort.Distance (Partition name key body) = false
is_of sort.Partition (Map name params arrow out body) = false
is_of sort.Partition (Reduce name key streams arrow out body) = false
is_of sort.Partition (Distance name key before after body) = false
is_of sort.Partition (Partition name key body) = true

-- a function is of this sort and has this name
abbrev pub is_called : Sort → List ℕ → Function → Bool
is_called sort name function = is_of sort function && bytes_eq name (name_of function).text

-- what a name stands for
abbrev pub named : Use → Ident → Named
named what ident = record { what = what; line = ident.line }

-- a function of this sort among the program's own
abbrev pub own_named : Sort → List Function → Ident → Found Named
own_named sort functions ident = do
  n ← or_wrong (position (is_called sort ident.text) functions) ident.line UnknownName
  Ok (named (a_use.Function n) ident)

-- a map is `same`, or one of the program's own
abbrev pub map_named : List Function → Ident → Found Named
map_named functions ident = cond (bytes_eq ident.text (codes "same")) (Ok (named a_use.Same ident)) (own_named sort.Map functions ident)

-- a reduce is `least`, `every` or `hop`, or one of the program's own
abbrev pub reduce_named : List Function → Ident → Found Named
reduce_named functions ident =
    cond (bytes_eq ident.text (codes "least")) (Ok (named a_use.Least ident))
    (cond (bytes_eq ident.text (codes "every")) (Ok (named a_use.Every ident))
    (cond (bytes_eq ident.text (codes "hop")) (Ok (named a_use.Hop ident)) (own_named sort.Reduce functions ident)))

-- where no name stands, the default of this line
abbrev pub default : ℕ → Named
default line = record { what = a_use.Default; line = line }

-- a partition is the default where none is named, or one of the program's own
abbrev pub partition_named : List Function → ℕ → Option Ident → Found Named
partition_named functions line None = Ok (default line)
partition_named functions line (Some ident) = own_named sort.Partition functions ident

-- the distance of an exact stop is the default, and each other one of the program's own
abbrev pub distance_named : List Function → StopSketch → Found Named
distance_named functions Exact = Ok (default 0)
distance_named functions (Below threshold by) = own_named sort.Distance functions by

-- the number of a table, from 0
abbrev pub table_named : List TableSketch → Ident → Found ℕ
table_named tables ident = or_wrong (position (λ (table : TableSketch). bytes_eq ident.text table.name.text) tables) ident.line UnknownTable

-- a number as a count of 32 bits
abbrev pub count_of : ℤ → ℕ
count_of (pos n) = min n 4294967295
count_of (negsuc n) = 0

-- the one round in which a table is read
abbrev pub only_of : Option Number → Option ℕ
only_of None = None
only_of (Some number) = Some (count_of number.value)

-- a table that a step reads
abbrev pub input_named : List TableSketch → List Function → InputSketch → Found NamedSource
input_named tables functions input = do
  table ← table_named tables input.table
  map ← map_named functions input.map
  Ok (record { from = Table table (only_of input.only); map = map })

-- a step, whose first source is this
abbrev pub step_named : List TableSketch → List Function → Origin → StepSketch → Found NamedStep
step_named tables functions from step = do
  map ← map_named functions step.map
  inputs ← each (input_named tables functions) step.inputs
  reduce ← reduce_named functions step.reduce
  partition ← partition_named functions step.line step.partition
  Ok (record { sources = record { from = from; map = map } ∷ inputs; reduce = reduce; partition = partition })

-- the first step reads the state, each other the output before
abbrev pub steps_named : List TableSketch → List Function → List StepSketch → Found (List NamedStep)
steps_named tables functions [] = Ok []
steps_named tables functions (first ∷ others) = do
  step ← step_named tables functions State first
  steps ← each (step_named tables functions Prev) others
  Ok (step ∷ steps)

-- what all names stand for
abbrev pub places : TypedSketch → Found Places
places sketch = do
  distance ← distance_named sketch.functions sketch.stop
  start ← table_named sketch.tables sketch.start
  steps ← steps_named sketch.tables sketch.functions sketch.steps
  Ok (record { start = start; steps = steps; distance = distance })
