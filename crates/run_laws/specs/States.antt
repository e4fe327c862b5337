-- The states that a run reaches.
use Rattle.std.specs.Prelude.{◌≡◌, ℕ, ◌≤◌, ◌<◌, Bool, true, not, List, [], ◌∷◌, ◌++◌, Option, None, ◌==◌}
use Rattle.hal_base.specs.Shapes.{IsWellFormed}
use Rattle.node_names.specs.declared.name.Name.TheVariants.{Out, Spill}
use Rattle.node_names.specs.declared.task.Task.{Task}
use Rattle.node_names.specs.declared.task.Task.TheVariants.{Map, Reduce, Test}
use Rattle.replica_table.specs.Order.{AreInOrder}
use Rattle.replica_table.specs.Sets.{Ascend, among}
use Rattle.schedule_text.specs.declared.schedule.Event.{Event}
use Rattle.schedule_text.specs.declared.schedule.Event.TheVariants as event
use Rattle.schedule_text.specs.declared.schedule.Event.TheVariants.{Back, Busy, Done, Fail, Idle, Lose, Round}
use Rattle.counter_report.specs.declared.journal.EndWord.{EndWord}
use Rattle.run_model.specs.Lists.{IsIn, number_of}
use Rattle.run_model.specs.PlanLaws.{Always}
use Rattle.run_model.specs.Runs.{loaded, state_of}
use Rattle.run_model.specs.declared.attempt.Attempt.{Attempt}
use Rattle.run_model.specs.State.{Copy, PlainCluster, Setup, holds}
use Rattle.run_model.specs.Tasks.{tasks_until, test_count}
use Rattle.run_model.specs.Turns.{turn}
use Rattle.run_laws.specs.Rounds.{NameFits}

-- a test is one of this round
abbrev pub IsNow : ℕ → Task → Type 0
IsNow round (Map i j s q) = Unit {0}
IsNow round (Reduce i j p) = Unit {0}
IsNow round (Test i p) = i ≡ round

-- ---- copies

-- copies of names of the shape and of rounds until this one, in order, on nodes that there are
pub record CopiesFit (setup : Setup) (round : ℕ) (copies : List Copy) : Type 0 where
  pub each : (it : Copy) → IsIn it copies → NameFits setup.shape round it.name
  pub order : AreInOrder setup.schedule.nodes copies

-- ---- attempts

-- the node has no copy of what the task makes; of a test, its value is not known
abbrev pub is_open : List Copy → List ℕ → Task → ℕ → Bool
is_open copies known (Map i j s q) node = not (holds copies node (Spill i j s q))
is_open copies known (Reduce i j p) node = not (holds copies node (Out i j p))
is_open copies known (Test i p) node = not (among p known)

-- an attempt at a task of the rounds until this one, on an up node, that makes what is not there
pub record Runs (setup : Setup) (round : ℕ) (up : List ℕ) (copies : List Copy) (known : List ℕ) (a : Attempt) : Type 0 where
  pub listed : IsIn a.task (tasks_until setup.shape round)
  pub on_up : among a.node up ≡ true
  pub opens : is_open copies known a.task a.node ≡ true
  pub now : IsNow round a.task

-- no task runs twice
abbrev pub Once : List Attempt → Type 0
Once [] = Unit {0}
Once (a ∷ running) = ((b : Attempt) → IsIn b running → a.task ≡ b.task → ⊥) × Once running

-- such attempts, each at another task, and on no node more than it has slots
pub record RunningFit (setup : Setup) (round : ℕ) (up : List ℕ) (copies : List Copy) (known : List ℕ) (running : List Attempt) : Type 0 where
  pub each : (a : Attempt) → IsIn a running → Runs setup round up copies known a
  pub once : Once running
  pub loads : (n : ℕ) → number_of (λ (a : Attempt). n == a.node) running ≤ setup.schedule.slots

-- ---- states

-- a round that the program may have, and what is left of the schedule's events
pub record Timely (setup : Setup) (round : ℕ) (events : List Event) : Type 0 where
  pub begun : 1 ≤ round
  pub in_time : round ≤ setup.shape.rounds
  pub spent : (front : List Event) × (setup.schedule.events ≡ front ++ events)

-- what holds of each state that a run reaches
pub record Reached (setup : Setup) (c : PlainCluster) : Type 0 where
  pub time : Timely setup c.round c.events
  pub up : Ascend 0 setup.schedule.nodes c.up
  pub marked : Ascend 0 setup.schedule.nodes c.marked
  pub copies : CopiesFit setup c.round c.copies
  pub running : RunningFit setup c.round c.up c.copies c.known c.running
  pub known : Ascend 0 (test_count setup.shape) c.known

-- ---- what a run is given

-- the node of an event
abbrev pub node_in : Event → ℕ
node_in (Done n) = n
node_in (Fail n) = n
node_in (Lose n) = n
node_in (Back n) = n
node_in (event.Wipe n) = n
node_in (Busy n) = n
node_in (Idle n) = n
node_in (Round n) = 0

-- a shape that is well formed, and a schedule with nodes and slots, of which each event names a node that there is
pub record Fits (setup : Setup) : Type 0 where
  pub shape : IsWellFormed setup.shape
  pub events : (e : Event) → IsIn e setup.schedule.events → node_in e < setup.schedule.nodes
  pub slots : 1 ≤ setup.schedule.slots
  pub nodes : 1 ≤ setup.schedule.nodes

-- in the last round the loop ends
abbrev pub EndsInTime : Setup → PlainCluster → Option EndWord → Type 0
EndsInTime setup c decision = decision ≡ None → c.round < setup.shape.rounds

-- ---- laws

-- the state after load is one that a run reaches
abbrev pub LoadReaches : Type 0
LoadReaches = (setup : Setup) → Fits setup → Reached setup (loaded setup)

-- and so is each state after a turn, however it goes, also where the run ends or is refused
abbrev pub TurnReaches : Type 0
TurnReaches =
    (setup : Setup) (decision : Option EndWord) (c : PlainCluster)
    → Fits setup → EndsInTime setup c decision → Reached setup c
    → Always (λ turned. Reached setup (state_of turned)) (Reached setup) (turn setup decision c)
