-- Why a run ends: what is left of it, and the work that is open.
use Rattle.std.specs.Prelude.{ℕ, suc, ◌+◌, ◌-◌, ◌*◌, Bool, ◌&&◌, not, List, map, length}
use Rattle.std.specs.List.{filter, flat_map, list_any}
use Rattle.hal_base.specs.declared.shape.Shape.{Shape}
use Rattle.node_names.specs.declared.task.Task.{Task}
use Rattle.run_model.specs.Lists.{below, number_of}
use Rattle.run_model.specs.Needs.{is_there, needs}
use Rattle.run_model.specs.Reading.{misses}
use Rattle.run_model.specs.declared.attempt.Attempt.{Attempt}
use Rattle.run_model.specs.State.{Copy, PlainCluster, Setup}
use Rattle.run_model.specs.Tasks.{is_task, tasks_until}
use Rattle.run_model.specs.Wanted.{is_empty}
use Rattle.run_laws.specs.States.{is_open}

-- ---- what is left

-- the rounds, events and misses that are left
abbrev pub left : Setup → PlainCluster → ℕ
left setup c = (setup.shape.rounds - c.round) + length c.events + (1000 - misses c)

-- ---- work

-- all needs of an attempt are there
abbrev pub readable : Shape → List Copy → List ℕ → Attempt → Bool
readable shape copies up a = is_empty (filter (λ name. not (is_there copies up a.node name)) (needs shape copies a.node a.task))

-- the task runs, and one of its needs is not there
abbrev pub is_blocked : Shape → List Copy → List ℕ → List Attempt → Task → Bool
is_blocked shape copies up running task = list_any (λ (a : Attempt). is_task task a.task && not (readable shape copies up a)) running

-- all tasks of all rounds
abbrev pub all_tasks : Setup → List Task
all_tasks setup = tasks_until setup.shape setup.shape.rounds

-- each of them with each node
abbrev pub places : Setup → List Attempt
places setup = flat_map (λ task. map (λ node. record { task = task; node = node }) (below setup.schedule.nodes)) (all_tasks setup)

-- the copies and the values of tests that are not there
abbrev pub open_copies : Setup → List Copy → List ℕ → ℕ
open_copies setup copies known = number_of (λ (a : Attempt). is_open copies known a.task a.node) (places setup)

-- the running attempts that would starve
abbrev pub blocked_tasks : Setup → List Copy → List ℕ → List Attempt → ℕ
blocked_tasks setup copies up running = number_of (is_blocked setup.shape copies up running) (all_tasks setup)

-- what is open: what is not there, and the attempts that would starve
abbrev pub work : Setup → PlainCluster → ℕ
work setup c = open_copies setup c.copies c.known + blocked_tasks setup c.copies c.up c.running

-- more than the work that can be open
abbrev pub most_work : Setup → ℕ
most_work setup = suc (length (places setup) + length (all_tasks setup))

-- the measure of a run: what is left counts before what is open
abbrev pub measure : Setup → PlainCluster → ℕ
measure setup c = left setup c * most_work setup + work setup c
