-- The tasks of a round, step by step and source by source, and what a reduce reads.
use Rattle.std.proofs.Common.{◌≡◌, ℕ, Bool, true, false, List, [], ◌∷◌, ◌++◌, map, refl}
use Rattle.std.specs.Prelude.{if◌then◌else◌}
use Rattle.std.specs.List.{flat_map, range_with_len}
use Rattle.hal_base.specs.Shapes.{source_at}
use Rattle.hal_base.specs.declared.shape.Shape.{Shape}
use Rattle.node_names.specs.declared.task.Task.{Task}
use Rattle.node_names.specs.declared.task.Task.TheVariants.{Map}
use Rattle.run_model.specs.Needs.{Input, reduce_input}
use Rattle.run_model.specs.Tasks.{is_cached, last, maps, reduces, spills, splits}
use Rattle.loop_scheduler.specs.steps.Reading.{spills_read}

-- the maps of source s of step j
abbrev pub maps_of : Shape → ℕ → ℕ → ℕ → List Task
maps_of shape i j s = map (Map i j s) (splits shape i j s)

-- the maps and then the reduces of step j
abbrev pub tasks_of_step : Shape → ℕ → ℕ → List Task
tasks_of_step shape i j = maps shape i j ++ reduces shape i j

-- those of all steps
abbrev pub steps_tasks : Shape → ℕ → List Task
steps_tasks shape i = flat_map (tasks_of_step shape i) (range_with_len 1 (last shape))

-- ---- what a reduce reads

-- of a source: its spills
source_files : (shape : Shape) (i j p s : ℕ) (cached : Bool) → spills shape (if cached then 1 else i) j s ≡ (reduce_input shape i j p s cached).files
source_files shape i j p s true = refl
source_files shape i j p s false = refl

-- the input of a source
abbrev pub input_of : Shape → ℕ → ℕ → ℕ → ℕ → Input
input_of shape i j p s = reduce_input shape i j p s (is_cached (source_at shape j s))

pub reduce_lists : (shape : Shape) (i j p : ℕ) (ss : List ℕ) → map (spills_read shape i j) ss ≡ map (λ (it : Input). it.files) (map (input_of shape i j p) ss)
reduce_lists shape i j p [] = refl
reduce_lists shape i j p (s ∷ ss) = (λ n. source_files shape i j p s (is_cached (source_at shape j s)) n ∷ reduce_lists shape i j p ss n)

pub reduce_files : (shape : Shape) (i j p : ℕ) (ss : List ℕ) → flat_map (spills_read shape i j) ss ≡ flat_map (λ (it : Input). it.files) (map (input_of shape i j p) ss)
reduce_files shape i j p [] = refl
reduce_files shape i j p (s ∷ ss) = (λ n. source_files shape i j p s (is_cached (source_at shape j s)) n ++ reduce_files shape i j p ss n)
