-- Runs in which nothing is lost: no node goes, no read misses, and nothing is kept in caches.
use Rattle.std.specs.Prelude.{◌↔◌, ◌≡◌, ℕ, ◌-◌, ◌≤◌, ◌<◌, Bool, true, false, not, List, [], Option, Some, slice_index}
use Rattle.std.specs.List.{AllByRecursion, filter}
use Rattle.hal_base.specs.Shapes.{source_at}
use Rattle.hal_base.specs.declared.shape.Shape.{Shape}
use Rattle.hal_base.specs.declared.shape.Source.{Source}
use Rattle.node_names.specs.declared.name.Name.{Name}
use Rattle.node_names.specs.declared.name.Name.TheVariants.{Blk, Out, Spill}
use Rattle.node_names.specs.declared.task.Task.{Task}
use Rattle.node_names.specs.declared.task.Task.TheVariants.{Map, Reduce, Test}
use Rattle.replica_table.specs.Sets.{among}
use Rattle.schedule_text.specs.declared.schedule.Event.{Event}
use Rattle.schedule_text.specs.declared.schedule.Event.TheVariants as event
use Rattle.schedule_text.specs.declared.schedule.Event.TheVariants.{Back, Busy, Done, Fail, Idle, Lose, Round}
use Rattle.counter_report.specs.declared.journal.EndWord.{EndWord}
use Rattle.run_model.specs.Advance.{Advanced, advance, finished, goes_on}
use Rattle.run_model.specs.Lists.{IsIn, below}
use Rattle.run_model.specs.Needs.{Input, idle_nodes, inputs, is_up, view_of}
use Rattle.run_model.specs.Plans.{BlockLost, Leaves, Made, Misses, NoNode, Plan, Refusal, TaskFailed, asks, does, gives, refuses}
use Rattle.run_model.specs.Runs.{loaded, state_of}
use Rattle.run_model.specs.Start.{goal_of, start_some}
use Rattle.run_model.specs.State.{PlainCluster, Setup}
use Rattle.run_model.specs.Tasks.{IsTask, last, tasks_of_round}
use Rattle.run_model.specs.Turns.{Turned, turn}
use Rattle.run_model.specs.Wanted.{ready, wanted}
use Rattle.run_laws.specs.States.{EndsInTime, Fits, Reached}

-- ---- plans in which no read misses

-- where no read misses, this holds of what the plan gives, and that of a refusal
abbrev pub Unmissed : {A : Type 0} → (A → Type 0) → (PlainCluster → Refusal → Type 0) → Plan A → Type 0
Unmissed P R (gives a) = P a
Unmissed P R (refuses c why) = R c why
Unmissed P R (does call plan) = Unmissed P R plan
Unmissed P R (asks node name next) = Unmissed P R (next false)

-- none of these calls missed
abbrev pub NoneMissed : List Made → Type 0
NoneMissed made = AllByRecursion (λ (m : Made). m.missed ≡ false) made

-- ---- states

-- no source has a cache, and there is none of the output
pub record HasNoCaches (shape : Shape) : Type 0 where
  pub sources : (j s : ℕ) (source : Source) → source_at shape j s ≡ Some source → (source.reducer_input ≡ false) × (source.mapper_input ≡ false)
  pub output : shape.reducer_output ≡ false

-- the task is made: its file lies on an up node; of a test, its value is known
abbrev pub is_made : PlainCluster → Task → Bool
is_made c (Map i j s q) = is_up c.copies c.up (Spill i j s q)
is_made c (Reduce i j p) = is_up c.copies c.up (Out i j p)
is_made c (Test i p) = among p c.known

-- each file that the task reads lies on an up node
abbrev pub CanRead : Setup → PlainCluster → Task → Type 0
CanRead setup c task = (it : Input) (name : Name) → IsIn it (inputs setup.shape task) → IsIn name it.files → is_up c.copies c.up name ≡ true

-- a reached state in which nothing is lost: all nodes are up, with each block and each part of the round before; no cache is
-- kept; and what was made of this round can be made again
pub record Orderly (setup : Setup) (c : PlainCluster) : Type 0 where
  pub reached : Reached setup c
  pub caches : HasNoCaches setup.shape
  pub all_up : c.up ≡ below setup.schedule.nodes
  pub blocks : (t b : ℕ) → b < slice_index setup.shape.blocks t → is_up c.copies c.up (Blk t b) ≡ true
  pub before : 2 ≤ c.round → (p : ℕ) → p < setup.shape.parts → is_up c.copies c.up (Out (c.round - 1) (last setup.shape) p) ≡ true
  pub made : (task : Task) → IsIn task (tasks_of_round setup.shape c.round) → is_made c task ≡ true → CanRead setup c task

-- ---- laws

-- the wanted tasks are those of this round that are not made, where some node is idle
abbrev pub WantedWithoutLoss : Type 0
WantedWithoutLoss =
    (setup : Setup) (c : PlainCluster) → Fits setup → Orderly setup c → (idle_nodes setup c ≡ [] → ⊥)
    → wanted (view_of setup c) (goal_of c) ≡ filter (λ task. not (is_made c task)) (tasks_of_round setup.shape c.round)

-- and such a task is ready exactly where each file that it reads lies on an up node
abbrev pub ReadyWithoutLoss : Type 0
ReadyWithoutLoss =
    (setup : Setup) (c : PlainCluster) (task : Task) → Fits setup → Orderly setup c → (idle_nodes setup c ≡ [] → ⊥) → IsTask setup.shape task
    → (ready (view_of setup c) task ≡ true) ↔ CanRead setup c task

-- an event by which nothing is lost: an attempt is done or fails, or a round is waited for
abbrev pub is_quiet : Event → Bool
is_quiet (Done n) = true
is_quiet (Fail n) = true
is_quiet (Round n) = true
is_quiet (Lose n) = false
is_quiet (Back n) = false
is_quiet (event.Wipe n) = false
is_quiet (Busy n) = false
is_quiet (Idle n) = false

-- events by which nothing is lost
abbrev pub AreQuiet : List Event → Type 0
AreQuiet events = AllByRecursion (λ e. is_quiet e ≡ true) events

-- a task failed as often as ends the run
abbrev pub IsFailure : Refusal → Type 0
IsFailure (TaskFailed task) = Unit {0}
IsFailure NoNode = ⊥
IsFailure (BlockLost block) = ⊥
IsFailure Misses = ⊥

-- the state after load is orderly, where each block gets a copy and no cache is kept
abbrev pub LoadIsOrderly : Type 0
LoadIsOrderly = (setup : Setup) → Fits setup → HasNoCaches setup.shape → 1 ≤ setup.schedule.copies → Orderly setup (loaded setup)

-- an orderly state with quiet events
abbrev pub StaysOrderly : Setup → PlainCluster → Type 0
StaysOrderly setup c = Orderly setup c × AreQuiet c.events

-- where advance goes on, or finishes
abbrev pub OnAdvanced : (PlainCluster → Type 0) → Advanced → Type 0
OnAdvanced P (goes_on c) = P c
OnAdvanced P (finished c end) = P c

-- advance keeps a state orderly where no read misses, and is not refused
abbrev pub QuietAdvances : Type 0
QuietAdvances =
    (setup : Setup) (decision : Option EndWord) (c : PlainCluster)
    → Fits setup → EndsInTime setup c decision → StaysOrderly setup c
    → Unmissed (OnAdvanced (StaysOrderly setup)) (λ d why. ⊥) (advance setup decision c)

-- so does each start of a task
abbrev pub StartsStayOrderly : Type 0
StartsStayOrderly = (setup : Setup) (n : ℕ) (c : PlainCluster) → Fits setup → StaysOrderly setup c → StaysOrderly setup (start_some setup n c)

-- a turn of quiet events in which no read misses keeps a state orderly, and is refused only where a task failed too often
abbrev pub QuietTurns : Type 0
QuietTurns =
    (setup : Setup) (decision : Option EndWord) (c : PlainCluster)
    → Fits setup → EndsInTime setup c decision → StaysOrderly setup c
    → Unmissed (λ turned. StaysOrderly setup (state_of turned)) (λ d why. IsFailure why) (turn setup decision c)

-- what came of a turn by its calls: an orderly state with quiet events, or a task that failed too often
pub record CameQuietly (setup : Setup) (plan : Plan Turned) (made : List Made) : Type 0 where
  pub gave : (turned : Turned) → Leaves plan made (gives turned) → StaysOrderly setup (state_of turned)
  pub refused : (d : PlainCluster) (why : Refusal) → Leaves plan made (refuses d why) → IsFailure why

-- so it is after the calls of such a turn, if none of them missed
abbrev pub QuietTurnsByCalls : Type 0
QuietTurnsByCalls =
    (setup : Setup) (decision : Option EndWord) (c : PlainCluster) (made : List Made)
    → Fits setup → EndsInTime setup c decision → StaysOrderly setup c → NoneMissed made
    → CameQuietly setup (turn setup decision c) made
