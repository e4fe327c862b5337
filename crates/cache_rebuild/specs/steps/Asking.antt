-- What is asked for while tasks are looked at.
use Rattle.std.specs.Prelude.{◌≡◌, ℕ, ◌==◌, nat_le, Bool, false, ◌&&◌, ◌||◌, not, List, if◌then◌else◌}
use Rattle.std.specs.List.{filter, list_any}
use Rattle.node_names.specs.declared.name.Name.{Name}
use Rattle.node_names.specs.declared.name.Name.TheVariants.{Out, Spill}
use Rattle.node_names.specs.declared.task.Task.{Task}
use Rattle.node_names.specs.declared.task.Task.TheVariants.{Map, Reduce, Test}
use Rattle.replica_table.specs.Copies.{is_name}
use Rattle.replica_table.specs.Sets.{among}
use Rattle.run_model.specs.Needs.{View, is_there, is_up}
use Rattle.run_model.specs.Wanted.{Goal}

-- what a task makes is among these files
abbrev pub makes_one : List Name → Task → Bool
makes_one names (Map i j s q) = list_any (is_name (Spill i j s q)) names
makes_one names (Reduce i j p) = list_any (is_name (Out i j p)) names
makes_one names (Test i p) = false

-- beside the files that were asked for, these are
abbrev pub AsksMore : List Name → List Name → List Name → Type 0
AsksMore old new names = (task : Task) → makes_one new task ≡ (makes_one names task || makes_one old task)

-- those of the files that are not there at a node
abbrev pub gone : View → ℕ → List Name → List Name
gone view node names = filter (λ name. not (is_there view.copies view.up node name)) names

-- those of the files that no up node holds
abbrev pub lost : View → List Name → List Name
lost view names = filter (λ name. not (is_up view.copies view.up name)) names

-- a task is asked for: what it makes is among these files, or it is a test of the goal that is not known
abbrev pub is_asked_for : Goal → List Name → Task → Bool
is_asked_for goal names (Map i j s q) = makes_one names (Map i j s q)
is_asked_for goal names (Reduce i j p) = makes_one names (Reduce i j p)
is_asked_for goal names (Test i p) = i == goal.round && not (among p goal.known)

-- files of a round may be asked for: of the first where this is said, of any other from the lowest one on
abbrev pub may_have : Bool → ℕ → ℕ → Bool
may_have first lowest i = if i == 1 then first else nat_le lowest i
