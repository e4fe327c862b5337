-- A cluster as its users see it: turn after turn, and what it has answered for good.
use Rattle.std.specs.Prelude.{◌≡◌, ℕ, zero, suc, List, Option, None, Some, IsSome, Result, Ok, Err}
use Rattle.hal_base.specs.declared.record.Record.{Record}
use Rattle.hal_base.specs.declared.shape.Shape.{Shape}
use Rattle.hal_base.specs.Meaning.{Meaning}
use Rattle.hal_outside.specs.DiskTold.{DiskTold}
use Rattle.schedule_text.specs.Schedules.{KeepsLimits}
use Rattle.schedule_text.specs.declared.schedule.Schedule.{Schedule}
use Rattle.counter_report.specs.declared.journal.EndWord.{EndWord}
use Rattle.loop_scheduler.specs.Views.{IsCounted}
use Rattle.run_laws.specs.WithoutLoss.{AreQuiet, HasNoCaches}
use Rattle.run_model.specs.Plans.{Plan, gives}
use Rattle.run_model.specs.Runs.{loaded, turns}
use Rattle.run_model.specs.State.{PlainCluster, Setup}
use Rattle.run_model.specs.Turns as machine
use Rattle.run_model.specs.Turns.{acted, ends, turn}
use Rattle.valid_copies.specs.Calls.{Follows}
use Rattle.cluster_core.specs.Deciding.{chain_decision}
use Rattle.cluster_core.specs.Faults.{RefusedIn}
use Rattle.cluster_core.specs.Origins.{AreAnswers, MadeOfReads}
use Rattle.task_values.specs.Worlds.{WorldFits}
use Rattle.cluster_core.specs.States.{Kept, Seen}
use Rattle.cluster_core.specs.Turns.{DecidesAt, DecidesSo, IsRight, IsRunning, decision_in}
use Rattle.cluster_core.specs.Works.{StandsFor, world_of}
use Rattle.cluster_core.specs.declared.cluster.Answer.{Answer}
use Rattle.cluster_core.specs.declared.cluster.Answer.TheVariants as answer
use Rattle.cluster_core.specs.declared.cluster.Turned.{Turned}
use Rattle.cluster_core.specs.declared.cluster.Turned.TheVariants as turned
use Rattle.cluster_core.specs.declared.fault.CoreFault.{CoreFault}
use Rattle.cluster_core.specs.declared.fault.CoreFault.TheVariants.{TaskFailed, NotBuilt, Device, Memory}
use Rattle.cluster_core.specs.declared.finished.Finished.{Finished}

-- what is seen of a cluster: its state, and the fault or the end of the run that it has answered
pub record Progress : Type 0 where
  pub state : Seen
  pub answered : Option Answer

-- while a cluster has answered neither, its run goes on, and nothing is lost in it
abbrev pub RunsUntil : Option Answer → Seen → Type 0
RunsUntil None state = IsRunning state.setup state.plain
RunsUntil (Some answer) state = Unit {0}

-- ---- answers

-- what a turn finished
abbrev pub finished_in : Turned → Option Finished
finished_in turned.Acted = None
finished_in (turned.Finished it) = Some it

-- the answer for good that a turn gave
abbrev pub answer_in : Result Turned CoreFault → Option Answer
answer_in (Ok turned.Acted) = None
answer_in (Ok (turned.Finished it)) = Some (answer.Finished it)
answer_in (Err fault) = Some (answer.Fault fault)

-- the answer for good that a run gave
abbrev pub answer_of : Result Finished CoreFault → Answer
answer_of (Ok it) = answer.Finished it
answer_of (Err fault) = answer.Fault fault

-- the answer for good once more; or, where a copy of it is to be made, want of memory
abbrev pub Repeats : {A : Type 0} → (Finished → A) → Answer → Result A CoreFault → Type 0
Repeats told (answer.Fault fault) result = result ≡ Err fault
Repeats told (answer.Finished it) (Ok again) = again ≡ told it
Repeats told (answer.Finished it) (Err fault) = fault ≡ Memory

-- a fault of a device, or want of memory
abbrev pub IsDeviceOrMemory : CoreFault → Type 0
IsDeviceOrMemory (TaskFailed task) = ⊥
IsDeviceOrMemory NotBuilt = ⊥
IsDeviceOrMemory (Device device) = Unit {0}
IsDeviceOrMemory Memory = Unit {0}

-- ---- load

-- a shape within its limits without caches, and a schedule within its limits with events by which nothing is lost
pub record CanBegin (shape : Shape) (schedule : Schedule) : Type 0 where
  pub counted : IsCounted shape
  pub limits : KeepsLimits schedule
  pub caches : HasNoCaches shape
  pub quiet : AreQuiet schedule.events

-- a cluster after load, which has answered nothing
pub record IsBegun (setup : Setup) (cluster : Progress) : Type 0 where
  pub setup_is : cluster.state.setup ≡ setup
  pub plain_is : cluster.state.plain ≡ loaded setup
  pub answers : cluster.answered ≡ None

-- ---- runs

-- a turn that acted, under the decision that the values of the round's tests make; what it wrote, and its new values, are made
-- of what its reads answered
pub record ActedOnce (m : Meaning) (old : Seen) (before : Option DiskTold) (new : Seen) (after : Option DiskTold) : Type 0 where
  pub follows : Follows (turn old.setup (decision_in old) old.plain) before after (gives (acted new.plain))
  pub same : new.setup ≡ old.setup
  pub made : MadeOfReads m old.setup.shape new.kept.round old.kept.values new.kept.values before after

-- so many such turns, one after another
abbrev pub Acted : Meaning → ℕ → Seen → Option DiskTold → Seen → Option DiskTold → Type 0
Acted m zero old before new after = (new ≡ old) × (after ≡ before)
Acted m (suc n) old before new after = (middle : Seen) × (between : Option DiskTold) × Acted m n old before middle between × ActedOnce m middle between new after

-- some turns that acted, one after another
pub record Ran (m : Meaning) (old : Seen) (before : Option DiskTold) (last : Seen) (between : Option DiskTold) : Type 0 where
  pub count : ℕ
  pub acts : Acted m count old before last between
  pub same : last.setup ≡ old.setup

-- turns acted, and one more finished the run, with the lists for which the answers to its reads stand; all of them are turns of
-- the machine, under any decisions that go on until the end and end so
pub record RanToEnd (m : Meaning) (old : Seen) (before : Option DiskTold) (new : Seen) (after : Option DiskTold) (it : Finished) : Type 0 where
  pub last : Seen
  pub between : Option DiskTold
  pub ran : Ran m old before last between
  pub made : MadeOfReads m last.setup.shape new.kept.round last.kept.values new.kept.values between after
  pub ended : Follows (turn last.setup (decision_in last) last.plain) between after (gives (ends new.plain it.end))
  pub decided : decision_in last ≡ Some it.end
  pub same_round : new.plain.round ≡ last.plain.round
  pub rounds : it.rounds ≡ new.plain.round
  pub parts : AreAnswers last.setup.shape it.parts between after
  pub as_turns : (decisions : ℕ → Option EndWord) → DecidesSo new.plain.round (Some it.end) decisions → Follows (turns (suc ran.count) old.setup decisions old.plain) before after (gives (ends new.plain it.end))

-- turns acted, and one more was not brought to its end; all of them are turns of the machine, under any decisions that go on
-- until that turn and decide it so
pub record RanToFault (m : Meaning) (old : Seen) (before : Option DiskTold) (new : Seen) (after : Option DiskTold) (fault : CoreFault) : Type 0 where
  pub last : Seen
  pub between : Option DiskTold
  pub ran : Ran m old before last between
  pub made : MadeOfReads m last.setup.shape new.kept.round last.kept.values new.kept.values between after
  pub refused : RefusedIn (turn last.setup (decision_in last) last.plain) between after new.plain fault
  pub as_turns : (decisions : ℕ → Option EndWord) → DecidesAt last decisions → RefusedIn (turns (suc ran.count) old.setup decisions old.plain) before after new.plain fault

-- what is right after turns, where it was before: over functions and tables that fit, and disks that tell and show their damage
abbrev pub IsRightAfter : Meaning → Seen → Type 0 → Option DiskTold → Option DiskTold → Kept → Option Finished → Type 0
IsRightAfter m old shows before after new finished =
    (tables : List (List Record)) → WorldFits (world_of m old.setup tables) → shows → IsSome before → StandsFor (world_of m old.setup tables) old.kept before → IsRight (world_of m old.setup tables) after new finished

-- the calls of a plan led to the end of the run, or to the fault that stopped it
abbrev pub ComesTo : Plan machine.Turned → Option DiskTold → Option DiskTold → PlainCluster → Result Finished CoreFault → Type 0
ComesTo plan before after new (Ok it) = Follows plan before after (gives (ends new it.end))
ComesTo plan before after new (Err fault) = RefusedIn plan before after new fault

-- what was done is so many turns of the machine under the decisions of the chain, over functions and tables that fit, disks that
-- tell and show their damage, and a state that is right
abbrev pub IsByChain : Meaning → Seen → Type 0 → Option DiskTold → Option DiskTold → PlainCluster → Result Finished CoreFault → Type 0
IsByChain m old shows before after new result =
    (tables : List (List Record)) → WorldFits (world_of m old.setup tables) → shows → IsSome before → StandsFor (world_of m old.setup tables) old.kept before → (n : ℕ) × ComesTo (turns (suc n) old.setup (chain_decision (world_of m old.setup tables)) old.plain) before after new result
