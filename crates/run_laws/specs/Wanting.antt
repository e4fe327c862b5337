-- Laws of the wanted tasks.
use Rattle.std.specs.Prelude.{◌↔◌, ◌≡◌, ◌≤◌, Bool, true, [], None}
use Rattle.hal_base.specs.Shapes.{IsWellFormed}
use Rattle.node_names.specs.declared.task.Task.{Task}
use Rattle.run_model.specs.Lists.{IsIn}
use Rattle.run_model.specs.Needs.{View}
use Rattle.run_model.specs.Sites.{site}
use Rattle.run_model.specs.Tasks.{IsTask}
use Rattle.run_model.specs.Wanted.{Goal, IsWanted, asked_by, goals, wanted}
use Rattle.run_laws.specs.Rounds.{round_in}

-- the walk finds the wanted tasks and no others
pub record WalkIsRight (view : View) (goal : Goal) (task : Task) : Type 0 where
  pub found_is_wanted : IsIn task (wanted view goal) → IsWanted view goal task
  pub wanted_is_found : IsWanted view goal task → IsIn task (wanted view goal)

-- and this is so for each shape that is well formed
abbrev pub TheWalkIsRight : Type 0
TheWalkIsRight = (view : View) (goal : Goal) → IsWellFormed view.shape → 1 ≤ goal.round → (task : Task) → WalkIsRight view goal task

-- a set of tasks has the goals in it and, for each task in it, the tasks that make its missing needs
pub record IsClosed (view : View) (goal : Goal) (set : Task → Bool) : Type 0 where
  pub has_goals : (task : Task) → IsIn task (goals view goal) → set task ≡ true
  pub has_asked : (task by : Task) → set by ≡ true → IsIn task (asked_by view by) → set task ≡ true

-- the wanted tasks are in each such set
abbrev pub TheWantedAreLeast : Type 0
TheWantedAreLeast = (view : View) (goal : Goal) (set : Task → Bool) → IsClosed view goal set → (task : Task) → IsWanted view goal task → set task ≡ true

-- each wanted task is one of the shape, and of a round until this one
abbrev pub WantedAreTasks : Type 0
WantedAreTasks = (view : View) (goal : Goal) (task : Task) → IsIn task (wanted view goal) → IsTask view.shape task × (round_in task ≤ goal.round)

-- a task has no site exactly where no node is idle
abbrev pub SiteIsThere : Type 0
SiteIsThere = (view : View) (task : Task) → (site view task ≡ None) ↔ (view.idle ≡ [])
