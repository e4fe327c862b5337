-- Start: ready tasks begin to run.
use Rattle.std.specs.Prelude.{ℕ, zero, suc, ◌*◌, Bool, ◌&&◌, not, [], ◌∷◌, ◌++◌, Option, None, Some}
use Rattle.std.specs.List.{find, list_any}
use Rattle.node_names.specs.declared.task.Task.{Task}
use Rattle.counter_report.specs.declared.journal.Entry.TheVariants as line
use Rattle.run_model.specs.Needs.{view_of}
use Rattle.run_model.specs.Sites.{site}
use Rattle.run_model.specs.declared.attempt.Attempt.{Attempt}
use Rattle.run_model.specs.State.{PlainCluster, Setup}
use Rattle.run_model.specs.Tasks.{is_task}
use Rattle.run_model.specs.Wanted.{Goal, ready, wanted}

-- what a round has yet to come to: its number, and the tests that are known
abbrev pub goal_of : PlainCluster → Goal
goal_of c = record { round = c.round; known = c.known }

-- an attempt at the task runs
abbrev pub is_running : PlainCluster → Task → Bool
is_running c task = list_any (λ (a : Attempt). is_task task a.task) c.running

-- the first wanted task that is not running and is ready
abbrev pub first_ready : Setup → PlainCluster → Option Task
first_ready setup c = find (λ task. not (is_running c task) && ready (view_of setup c) task) (wanted (view_of setup c) (goal_of c))

-- an attempt at the task starts on the node, if there is one
abbrev pub started : Task → Option ℕ → PlainCluster → PlainCluster
started task None c = c
started task (Some node) c = record c { running = c.running ++ record { task = task; node = node } ∷ []; journal = c.journal ++ line.Start task node ∷ [] }

-- the first task that can start does so, if there is one
abbrev pub start_first : Setup → PlainCluster → Option Task → PlainCluster
start_first setup c None = c
start_first setup c (Some task) = started task (site (view_of setup c) task) c

-- starts the first ready task, if there is one
abbrev pub start_one : Setup → PlainCluster → PlainCluster
start_one setup c = start_first setup c (first_ready setup c)

-- so many times, each with a fresh view
abbrev pub start_some : Setup → ℕ → PlainCluster → PlainCluster
start_some setup zero c = c
start_some setup (suc n) c = start_some setup n (start_one setup c)

-- starts ready tasks until there is none: no more than there are slots
abbrev pub start : Setup → PlainCluster → PlainCluster
start setup c = start_some setup (setup.schedule.nodes * setup.schedule.slots) c
