-- The walk over the tasks, from the last one to the first.
use Rattle.std.specs.Prelude.{◌≡◌, List, [], ◌∷◌, reverse}
use Rattle.std.specs.List.{list_any}
use Rattle.node_names.specs.declared.task.Task.{Task}
use Rattle.run_model.specs.Lists.{IsIn}
use Rattle.run_model.specs.Needs.{View}
use Rattle.run_model.specs.Tasks.{is_task}
use Rattle.run_model.specs.Wanted.{Goal, Walked, looked_at}
use Rattle.cache_rebuild.specs.declared.walk.Walk.{Walk}
use Rattle.cache_rebuild.specs.steps.Asking.{is_asked_for}

-- what a walk comes to behind some more tasks, of which it looks at the last one first
abbrev pub walk_on : View → List Task → Walked → Walked
walk_on view [] w = w
walk_on view (task ∷ tasks) w = looked_at view task (walk_on view tasks w) (list_any (is_task task) (walk_on view tasks w).asked)

-- what a walk has come to with these tasks left, where with them it finds all that is wanted
pub record Comes (view : View) (goal : Goal) (left : List Task) (all : List Task) (walk : Walk) : Type 0 where
  pub w : Walked
  pub whole : (walk_on view left w).found ≡ all
  pub found : w.found ≡ reverse walk.found.items
  pub asked : (task : Task) → IsIn task left → list_any (is_task task) w.asked ≡ is_asked_for goal walk.asked.names.keys task
