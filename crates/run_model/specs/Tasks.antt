-- The splits of a source, the tasks of a round, and what each task makes.
use Rattle.std.specs.Prelude.{◌≤◌, ◌<◌, ℕ, ◌-◌, ◌==◌, nat_le, Bool, false, List, [], ◌∷◌, ◌++◌, Option, None, Some, length, slice_index, map, if◌then◌else◌}
use Rattle.std.specs.List.{flat_map, range_with_len}
use Rattle.hal_base.specs.Shapes.{source_at, step_at}
use Rattle.hal_base.specs.declared.shape.Origin.{Origin}
use Rattle.hal_base.specs.declared.shape.Origin.TheVariants.{State, Prev, Table}
use Rattle.hal_base.specs.declared.shape.Source.{Source}
use Rattle.hal_base.specs.declared.shape.Step.{Step}
use Rattle.hal_base.specs.declared.shape.Shape.{Shape}
use Rattle.node_names.specs.declared.name.Name.{Name}
use Rattle.node_names.specs.declared.name.Name.TheVariants.{Blk, Spill, Out, Ric, Mic, Roc}
use Rattle.node_names.specs.declared.task.Task.{Task}
use Rattle.node_names.specs.declared.task.Task.TheVariants.{Map, Reduce, Test}
use Rattle.node_names.specs.contracts.task.TaskPartialEq.TheImpl as same
use Rattle.run_model.specs.Lists.{below}

-- two tasks are one
abbrev pub is_task : Task → Task → Bool
is_task = same.ghosts.eq

-- ---- the shape

-- the number of the last step
abbrev pub last : Shape → ℕ
last shape = length shape.steps

-- how many sources a step has
abbrev pub source_count : Option Step → ℕ
source_count None = 0
source_count (Some step) = length step.sources

-- the numbers of the sources of step j
abbrev pub source_numbers : Shape → ℕ → List ℕ
source_numbers shape j = range_with_len 1 (source_count (step_at shape j))

-- the source has the reducer input cache
abbrev pub is_cached : Option Source → Bool
is_cached None = false
is_cached (Some source) = source.reducer_input

-- ---- splits

-- how many splits there are in round i of what a source takes: one for each block of a table, one for each part of an output
abbrev pub split_count : Shape → ℕ → Origin → ℕ
split_count shape i State = if i == 1 then slice_index shape.blocks shape.start else shape.parts
split_count shape i Prev = shape.parts
split_count shape i (Table t None) = slice_index shape.blocks t
split_count shape i (Table t (Some only)) = if i == only then slice_index shape.blocks t else 0

-- how many splits a source has in round i
abbrev pub count_in : Shape → ℕ → Option Source → ℕ
count_in shape i None = 0
count_in shape i (Some source) = split_count shape i source.from

-- the splits of source s of step j in round i
abbrev pub splits : Shape → ℕ → ℕ → ℕ → List ℕ
splits shape i j s = below (count_in shape i (source_at shape j s))

-- split q in round i of what a source of step j takes
abbrev pub split_of : Shape → ℕ → ℕ → Origin → ℕ → Name
split_of shape i j State q = if i == 1 then Blk shape.start q else Out (i - 1) (last shape) q
split_of shape i j Prev q = Out i (j - 1) q
split_of shape i j (Table t only) q = Blk t q

-- the file that a split of a source is read from, if there is such a source
abbrev pub split_in : Shape → ℕ → ℕ → Option Source → ℕ → List Name
split_in shape i j None q = []
split_in shape i j (Some source) q = split_of shape i j source.from q ∷ []

-- split q of source s of step j in round i, in a list
abbrev pub split : Shape → ℕ → ℕ → ℕ → ℕ → List Name
split shape i j s q = split_in shape i j (source_at shape j s) q

-- ---- tasks in task order

-- the maps of step j, by source and split
abbrev pub maps : Shape → ℕ → ℕ → List Task
maps shape i j = flat_map (λ s. map (Map i j s) (splits shape i j s)) (source_numbers shape j)

-- the reduces of a step, one for each part
abbrev pub reduces : Shape → ℕ → ℕ → List Task
reduces shape i j = map (Reduce i j) (below shape.parts)

-- how many tests a round has: one for each part with the reducer output cache, else one
abbrev pub test_count : Shape → ℕ
test_count shape = if shape.reducer_output then shape.parts else 1

-- the tests of round i; round 1 has none
abbrev pub tests : Shape → ℕ → List Task
tests shape i = if nat_le 2 i then map (Test i) (below (test_count shape)) else []

-- the tasks of round i: of each step the maps and then the reduces, and last the tests
abbrev pub tasks_of_round : Shape → ℕ → List Task
tasks_of_round shape i = flat_map (λ j. maps shape i j ++ reduces shape i j) (range_with_len 1 (last shape)) ++ tests shape i

-- the tasks of all rounds until this one
abbrev pub tasks_until : Shape → ℕ → List Task
tasks_until shape n = flat_map (tasks_of_round shape) (range_with_len 1 n)

-- a task of a shape: each of its numbers names one that the shape has
abbrev pub IsTask : Shape → Task → Type 0
IsTask shape (Map i j s q) = (1 ≤ i) × (1 ≤ j) × (j ≤ last shape) × (1 ≤ s) × (s ≤ source_count (step_at shape j)) × (q < count_in shape i (source_at shape j s))
IsTask shape (Reduce i j p) = (1 ≤ i) × (1 ≤ j) × (j ≤ last shape) × (p < shape.parts)
IsTask shape (Test i p) = (2 ≤ i) × (p < test_count shape)

-- ---- what is made by which task

-- the task that makes a file; a block and the caches are made by none that is asked for
abbrev pub maker : Name → Option Task
maker (Spill i j s q) = Some (Map i j s q)
maker (Out i j p) = Some (Reduce i j p)
maker (Blk t b) = None
maker (Ric j s p) = None
maker (Mic t b) = None
maker (Roc i p) = None

-- the parts of round i's last step
abbrev pub last_outs : Shape → ℕ → List Name
last_outs shape i = map (Out i (last shape)) (below shape.parts)

-- all spills of a source in round i
abbrev pub spills : Shape → ℕ → ℕ → ℕ → List Name
spills shape i j s = map (Spill i j s) (splits shape i j s)

-- a name of a shape: each of its numbers names one that the shape has
abbrev pub IsName : Shape → Name → Type 0
IsName shape (Blk t b) = b < slice_index shape.blocks t
IsName shape (Mic t b) = b < slice_index shape.blocks t
IsName shape (Spill i j s q) = IsTask shape (Map i j s q)
IsName shape (Out i j p) = IsTask shape (Reduce i j p)
IsName shape (Ric j s p) = (1 ≤ j) × (j ≤ last shape) × (1 ≤ s) × (s ≤ source_count (step_at shape j)) × (p < shape.parts)
IsName shape (Roc i p) = IsTask shape (Reduce i (last shape) p)
