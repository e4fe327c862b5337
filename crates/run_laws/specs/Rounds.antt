-- The names and tasks of the rounds until one.
use Rattle.std.specs.Prelude.{◌↔◌, ℕ, ◌≤◌, ◌<◌, slice_index}
use Rattle.std.specs.List.{range_with_len}
use Rattle.hal_base.specs.declared.shape.Shape.{Shape}
use Rattle.node_names.specs.declared.name.Name.{Name}
use Rattle.node_names.specs.declared.name.Name.TheVariants.{Blk, Mic, Out, Ric, Roc, Spill}
use Rattle.node_names.specs.declared.task.Task.{Task}
use Rattle.node_names.specs.declared.task.Task.TheVariants.{Map, Reduce, Test}
use Rattle.run_model.specs.Lists.{IsIn, below}
use Rattle.run_model.specs.Tasks.{IsName, IsTask, last, source_numbers, tasks_until}

-- a name of the shape, and of a round until this one
abbrev pub NameFits : Shape → ℕ → Name → Type 0
NameFits shape round (Blk t b) = b < slice_index shape.blocks t
NameFits shape round (Spill i j s q) = IsIn (Map i j s q) (tasks_until shape round)
NameFits shape round (Out i j p) = IsIn (Reduce i j p) (tasks_until shape round)
NameFits shape round (Ric j s p) = IsIn j (range_with_len 1 (last shape)) × IsIn s (source_numbers shape j) × IsIn p (below shape.parts)
NameFits shape round (Mic t b) = b < slice_index shape.blocks t
NameFits shape round (Roc i p) = IsIn (Reduce i (last shape) p) (tasks_until shape round)

-- the round of a name; 0 where it has none
abbrev pub round_of : Name → ℕ
round_of (Blk t b) = 0
round_of (Spill i j s q) = i
round_of (Out i j p) = i
round_of (Ric j s p) = 0
round_of (Mic t b) = 0
round_of (Roc i p) = i

-- the round of a task
abbrev pub round_in : Task → ℕ
round_in (Map i j s q) = i
round_in (Reduce i j p) = i
round_in (Test i p) = i

-- such a name is one of the shape, and of a round until this one
abbrev pub NamesAreOfTheShape : Type 0
NamesAreOfTheShape = (shape : Shape) (round : ℕ) (name : Name) → NameFits shape round name → IsName shape name × (round_of name ≤ round)

-- the tasks of the rounds until this one are those of the shape that are of such a round
abbrev pub TasksAreOfTheShape : Type 0
TasksAreOfTheShape = (shape : Shape) (round : ℕ) (task : Task) → IsIn task (tasks_until shape round) ↔ (IsTask shape task × (round_in task ≤ round))
