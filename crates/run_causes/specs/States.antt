-- What each state of a run has of its schedule, and of the reads that missed.
use Rattle.std.specs.Prelude.{◌≡◌, ℕ, ◌≤◌, Bool, false, List, [], ◌∷◌, ◌++◌, Option}
use Rattle.std.specs.List.{flat_map}
use Rattle.node_names.specs.declared.task.Task.{Task}
use Rattle.replica_table.specs.Sets.{among}
use Rattle.schedule_text.specs.declared.schedule.Event.{Event}
use Rattle.counter_report.specs.declared.journal.EndWord.{EndWord}
use Rattle.counter_report.specs.declared.journal.Entry.{Entry}
use Rattle.counter_report.specs.declared.journal.Entry.TheVariants as line
use Rattle.run_model.specs.Lists.{number_of}
use Rattle.run_model.specs.Plans.{Call, Leaves, Made, Plan, Read, Remove, Wipe, Write, asks, does, gives, refuses}
use Rattle.run_model.specs.Reading.{misses}
use Rattle.run_model.specs.Runs.{loaded, run, state_of, turns}
use Rattle.run_model.specs.State.{PlainCluster, Setup}
use Rattle.run_model.specs.Turns.{Turned}
use Rattle.run_laws.specs.States.{Fits}
use Rattle.run_laws.specs.Telling.{fails_at}
use Rattle.run_causes.specs.Fates.{fates, is_fail, is_node_up}

-- this of the state, where turns acted, finished the run or were refused
abbrev pub OnState : (PlainCluster → Type 0) → Plan Turned → Type 0
OnState P (gives turned) = P (state_of turned)
OnState P (refuses c why) = P c
OnState P (does call plan) = Unit {0}
OnState P (asks node name next) = Unit {0}

-- ---- the schedule

-- the node that a line tells was wiped
abbrev pub wiped_by : Entry → List ℕ
wiped_by (line.Wipe n) = n ∷ []
wiped_by _ = []

-- the nodes that were wiped, by the lines of a journal
abbrev pub told_wiped : List Entry → List ℕ
told_wiped journal = flat_map wiped_by journal

-- a state has what the events that are spent tell: just the nodes are up that they leave up, just those have lines of wipes
-- that they wipe, and no task has more lines of failures than `fail` events are spent
pub record FollowsSchedule (setup : Setup) (c : PlainCluster) : Type 0 where
  pub spent : List Event
  pub all : setup.schedule.events ≡ spent ++ c.events
  pub up : (n : ℕ) → among n c.up ≡ is_node_up setup.schedule.nodes (fates spent) n
  pub wiped : told_wiped c.journal ≡ (fates spent).wiped
  pub failed : (task : Task) → number_of (fails_at task) c.journal ≤ number_of is_fail spent

-- so does each state of a run, whichever reads missed
abbrev pub StatesFollowTheSchedule : Type 0
StatesFollowTheSchedule =
    (setup : Setup) (decisions : ℕ → Option EndWord) (n : ℕ) (made : List Made) (rest : Plan Turned)
    → Fits setup → Leaves (turns n setup decisions (loaded setup)) made rest → OnState (FollowsSchedule setup) rest

-- ---- misses

-- this, where the call is a read
abbrev pub if_read : Call → Bool → Bool
if_read (Read node name) missed = missed
if_read (Wipe node) missed = false
if_read (Write node name) missed = false
if_read (Remove node name) missed = false

-- a read that missed
abbrev pub is_missed : Made → Bool
is_missed m = if_read m.call m.missed

-- each read that missed has its line, and there are no more than 1,000
pub record MissesAreTold (made : List Made) (rest : Plan Turned) : Type 0 where
  pub told : OnState (λ c. misses c ≡ number_of is_missed made) rest
  pub few : number_of is_missed made ≤ 1000

-- so it is in each run, also after its first calls
abbrev pub MissesAreStruck : Type 0
MissesAreStruck =
    (setup : Setup) (decisions : ℕ → Option EndWord) (n : ℕ) (made : List Made) (rest : Plan Turned)
    → Fits setup → Leaves (turns n setup decisions (loaded setup)) made rest → MissesAreTold made rest

-- ---- load

-- turns acted, finished the run, or were refused
abbrev pub HasOutcome : Plan Turned → Type 0
HasOutcome (gives turned) = Unit {0}
HasOutcome (refuses c why) = Unit {0}
HasOutcome (does call plan) = ⊥
HasOutcome (asks node name next) = ⊥

-- the calls are those of load, and then those of turns from the state after load, which leave the same; just the reads of those
-- turns missed
pub record AreBehindLoad (setup : Setup) (decisions : ℕ → Option EndWord) (n : ℕ) (made : List Made) (rest : Plan Turned) : Type 0 where
  pub of_load : List Made
  pub of_turns : List Made
  pub both : made ≡ of_load ++ of_turns
  pub leaves : Leaves (turns n setup decisions (loaded setup)) of_turns rest
  pub missed : number_of is_missed made ≡ number_of is_missed of_turns

-- so are the calls of each run that has an outcome
abbrev pub TurnsAreBehindLoad : Type 0
TurnsAreBehindLoad =
    (setup : Setup) (decisions : ℕ → Option EndWord) (n : ℕ) (made : List Made) (rest : Plan Turned)
    → HasOutcome rest → Leaves (run n setup decisions) made rest → AreBehindLoad setup decisions n made rest
