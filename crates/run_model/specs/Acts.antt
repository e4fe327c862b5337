-- Act: one event happens, or an attempt is done.
use Rattle.std.specs.Prelude.{ℕ, ◌+◌, ◌==◌, nat_lt, min, Bool, ◌&&◌, not, List, [], ◌∷◌, ◌++◌, Option, None, Some, map, if◌then◌else◌}
use Rattle.std.specs.List.{filter, find}
use Rattle.std.specs.Ordering.{nat_cmp}
use Rattle.hal_base.specs.Sorted.{joined}
use Rattle.node_names.specs.declared.name.Name.{Name}
use Rattle.node_names.specs.declared.task.Task.{Task}
use Rattle.replica_table.specs.Copies.{but_node}
use Rattle.replica_table.specs.Sets.{among, but_one}
use Rattle.schedule_text.specs.declared.schedule.Event.{Event}
use Rattle.schedule_text.specs.declared.schedule.Event.TheVariants.{Done, Fail, Lose, Back, Wipe, Busy, Idle, Round}
use Rattle.counter_report.specs.declared.journal.EventWord.{EventWord}
use Rattle.counter_report.specs.declared.journal.EventWord.TheVariants as word
use Rattle.counter_report.specs.declared.journal.Entry.TheVariants as line
use Rattle.run_model.specs.Attempts.{attempt_done}
use Rattle.run_model.specs.Needs.{view_of}
use Rattle.run_model.specs.Plans as plan
use Rattle.run_model.specs.Plans.{Plan, gives, refuses, does, TaskFailed, NoNode, BlockLost}
use Rattle.run_model.specs.Removals.{clear}
use Rattle.run_model.specs.Start.{goal_of}
use Rattle.run_model.specs.declared.attempt.Attempt.{Attempt}
use Rattle.run_model.specs.declared.attempt.Failed.{Failed}
use Rattle.run_model.specs.State.{PlainCluster, Setup, noted, with_copies}
use Rattle.run_model.specs.Tasks.{is_task}
use Rattle.run_model.specs.Wanted.{first_missing_block}

-- ---- attempts

-- the oldest attempt on a node
abbrev pub oldest_on : PlainCluster → ℕ → Option Attempt
oldest_on c node = find (λ (a : Attempt). node == a.node) c.running

-- the lowest of the nodes of these attempts
abbrev pub lowest_node : Attempt → List Attempt → ℕ
lowest_node a [] = a.node
lowest_node a (b ∷ running) = min a.node (lowest_node b running)

-- the oldest attempt on the lowest node that runs one
abbrev pub oldest_of : PlainCluster → List Attempt → Option Attempt
oldest_of c [] = None
oldest_of c (a ∷ running) = oldest_on c (lowest_node a running)

-- the oldest attempt on the lowest node that runs one
abbrev pub oldest : PlainCluster → Option Attempt
oldest c = oldest_of c c.running

-- the same task on the same node
abbrev pub same_attempt : Attempt → Attempt → Bool
same_attempt a b = (a.node == b.node) && is_task a.task b.task

-- the cluster without an attempt
abbrev pub ended : Attempt → PlainCluster → PlainCluster
ended a c = record c { running = filter (λ b. not (same_attempt a b)) c.running }

-- an attempt that ran is done
abbrev pub finish : Setup → Attempt → PlainCluster → Plan PlainCluster
finish setup a c = attempt_done setup a (ended a c)

-- the failures, with one more of a task
abbrev pub with_failure : Task → List Failed → List Failed
with_failure task [] = record { task = task; count = 1 } ∷ []
with_failure task (f ∷ failures) = if is_task task f.task then record { task = f.task; count = f.count + 1 } ∷ failures else f ∷ with_failure task failures

-- how often a task has failed
abbrev pub failures_of : Task → List Failed → ℕ
failures_of task [] = 0
failures_of task (f ∷ failures) = if is_task task f.task then f.count else failures_of task failures

-- an attempt that ran has failed: it is counted, and the line says how often its task failed
abbrev pub failed : Attempt → PlainCluster → PlainCluster
failed a c = record (ended a c) { failures = with_failure a.task c.failures; journal = c.journal ++ line.Fail a.task a.node (failures_of a.task (with_failure a.task c.failures)) ∷ [] }

-- an attempt fails; the `attempts`-th failure of its task ends the run
abbrev pub fail : Setup → Attempt → PlainCluster → Plan PlainCluster
fail setup a c = if failures_of a.task (failed a c).failures == setup.schedule.attempts then refuses (failed a c) (TaskFailed a.task) else gives (failed a c)

-- ---- nodes

-- a node is down, and its attempts are killed, oldest first
abbrev pub lost : ℕ → PlainCluster → PlainCluster
lost n c = record c {
  up = but_one n c.up;
  running = filter (λ (a : Attempt). not (n == a.node)) c.running;
  journal = c.journal ++ line.Lose n ∷ map (λ (a : Attempt). line.Kill a.task n) (filter (λ (a : Attempt). n == a.node) c.running);
}

-- a node is up with its files; what does not stay is removed
abbrev pub returned : Setup → ℕ → PlainCluster → Plan PlainCluster
returned setup n c = clear setup (n ∷ []) (record c { up = joined nat_cmp n c.up; journal = c.journal ++ line.Back n ∷ [] })

-- the files of a node are gone
abbrev pub wiped : ℕ → PlainCluster → Plan PlainCluster
wiped n c = does (plan.Wipe n) (gives (noted (line.Wipe n ∷ []) (with_copies (but_node n c.copies) c)))

-- ---- events

-- an event that does not apply leaves its line alone
abbrev pub skipped : EventWord → ℕ → PlainCluster → Plan PlainCluster
skipped word n c = gives (noted (line.Skip word n ∷ []) c)

-- `done`: the oldest attempt of the node is done, if there is one
abbrev pub done_by : Setup → ℕ → PlainCluster → Option Attempt → Plan PlainCluster
done_by setup n c None = skipped word.Done n c
done_by setup n c (Some a) = finish setup a c

-- `fail`: the oldest attempt of the node fails, if there is one
abbrev pub failed_by : Setup → ℕ → PlainCluster → Option Attempt → Plan PlainCluster
failed_by setup n c None = skipped word.Fail n c
failed_by setup n c (Some a) = fail setup a c

-- an event acts, where it applies; else it is skipped
abbrev pub happens : Setup → Event → PlainCluster → Plan PlainCluster
happens setup (Done n) c = done_by setup n c (oldest_on c n)
happens setup (Fail n) c = failed_by setup n c (oldest_on c n)
happens setup (Lose n) c = if among n c.up then gives (lost n c) else skipped word.Lose n c
happens setup (Back n) c = if among n c.up then skipped word.Back n c else returned setup n c
happens setup (Wipe n) c = if among n c.up then skipped word.Wipe n c else wiped n c
happens setup (Busy n) c = if among n c.marked then skipped word.Busy n c else gives (noted (line.Busy n ∷ []) (record c { marked = joined nat_cmp n c.marked }))
happens setup (Idle n) c = if among n c.marked then gives (noted (line.Idle n ∷ []) (record c { marked = but_one n c.marked })) else skipped word.Idle n c
happens setup (Round n) c = skipped word.Round n c

-- the event is spent, and happens
abbrev pub spend : Setup → Event → List Event → PlainCluster → Plan PlainCluster
spend setup e events c = happens setup e (record c { events = events })

-- no attempt runs and the events are spent: no node is up, or the first block that a wanted map needs is lost
abbrev pub stuck : PlainCluster → List ℕ → Option Name → Plan PlainCluster
stuck c [] block = refuses c NoNode
stuck c (n ∷ up) None = gives c
stuck c (n ∷ up) (Some block) = refuses c (BlockLost block)

-- the events are spent: the oldest attempt is done
abbrev pub last_act : Setup → PlainCluster → Option Attempt → Plan PlainCluster
last_act setup c None = stuck c c.up (first_missing_block (view_of setup c) (goal_of c))
last_act setup c (Some a) = finish setup a c

-- the event `round R`
abbrev pub round_act : Setup → ℕ → List Event → PlainCluster → Option Attempt → Plan PlainCluster
round_act setup n events c None = spend setup (Round n) events c
round_act setup n events c (Some a) = if nat_lt c.round n then finish setup a c else spend setup (Round n) events c

-- one event acts; `round R` lets attempts be done until that round, and stays; where the events are spent, so do all
abbrev pub act_on : Setup → List Event → PlainCluster → Plan PlainCluster
act_on setup [] c = last_act setup c (oldest c)
act_on setup (Round n ∷ events) c = round_act setup n events c (oldest c)
act_on setup (Done n ∷ events) c = spend setup (Done n) events c
act_on setup (Fail n ∷ events) c = spend setup (Fail n) events c
act_on setup (Lose n ∷ events) c = spend setup (Lose n) events c
act_on setup (Back n ∷ events) c = spend setup (Back n) events c
act_on setup (Wipe n ∷ events) c = spend setup (Wipe n) events c
act_on setup (Busy n ∷ events) c = spend setup (Busy n) events c
act_on setup (Idle n ∷ events) c = spend setup (Idle n) events c

-- the last step of a turn: the first event that is left acts, or, where none is, an attempt is done
abbrev pub act : Setup → PlainCluster → Plan PlainCluster
act setup c = act_on setup c.events c
