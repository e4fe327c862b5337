-- What an attempt computes from reads of values: the value of each name that it writes.
use Rattle.std.specs.Prelude.{◌≡◌, ◌⊎◌, ℕ, ◌≤◌, true, false, Bool, List, [], ◌∷◌, ◌++◌, map}
use Rattle.hal_base.specs.Shapes.{IsWellFormed}
use Rattle.plain_job.specs.Chain.{last_out}
use Rattle.node_names.specs.declared.name.Name.{Name}
use Rattle.node_names.specs.declared.task.Task.TheVariants.{Test}
use Rattle.schedule_text.specs.declared.schedule.Schedule.{Schedule}
use Rattle.counter_report.specs.declared.journal.Entry.{Entry}
use Rattle.counter_report.specs.declared.journal.Entry.TheVariants.{Starve}
use Rattle.name_values.specs.Values.{World, value_of}
use Rattle.run_model.specs.Attempts.{attempt_done, own_writes}
use Rattle.run_model.specs.Lists.{IsIn}
use Rattle.run_model.specs.Needs.{inputs}
use Rattle.run_model.specs.Plans.{Call, Leaves, Made, Plan, Read, Remove, Wipe, Write, gives}
use Rattle.run_model.specs.Reading.{Reading, nothing_read, read_inputs, reading}
use Rattle.run_model.specs.declared.attempt.Attempt.{Attempt}
use Rattle.run_model.specs.State.{PlainCluster, Setup}
use Rattle.run_model.specs.Tasks.{IsTask, last_outs}
use Rattle.task_values.specs.Reads.{Answer, AreOfValues, computed, part_in, tested}
use Rattle.task_values.specs.Tests.{test_of}
use Rattle.task_values.specs.Worlds.{WorldFits}

-- ---- the reads that were answered

-- the name of a read that did not miss
abbrev pub answered_by : Call → Bool → List Name
answered_by (Read node name) true = []
answered_by (Read node name) false = name ∷ []
answered_by (Wipe node) missed = []
answered_by (Write node name) missed = []
answered_by (Remove node name) missed = []

-- the names of the reads among these calls that did not miss
abbrev pub answered : List Made → List Name
answered [] = []
answered (m ∷ made) = answered_by m.call m.missed ++ answered made

-- the names of the files that were read
abbrev pub names_of : List Answer → List Name
names_of answers = map (λ (a : Answer). a.name) answers

-- the answers are those of the reads among these calls, and each is of the value of its name
pub record AreReadFrom (w : World) (a : Attempt) (made : List Made) (answers : List Answer) : Type 0 where
  pub names : names_of answers ≡ answered made
  pub values : AreOfValues w (part_in a.task) answers

-- the calls that were made
abbrev pub calls_of : List Made → List Call
calls_of made = map (λ (m : Made). m.call) made

-- a run of the world's shape by this schedule
abbrev pub setup_of : World → Schedule → Setup
setup_of w schedule = record { shape = w.shape; schedule = schedule }

-- ---- laws

-- for each name that the attempt writes on its node it computes its value, and a test computes its own
pub record ReadingIsRight (w : World) (schedule : Schedule) (a : Attempt) (r : Reading) (answers : List Answer) : Type 0 where
  pub writes : (name : Name) → IsIn name (own_writes (setup_of w schedule) a.task r) → computed w.means w.shape a.task answers name ≡ value_of w name
  pub test : (i p : ℕ) → a.task ≡ Test i p → tested w.means i answers ≡ test_of w i p

-- where all reads of an attempt are answered by values, what it computes is right
abbrev pub ReadingsAreRight : Type 0
ReadingsAreRight =
    (w : World) → WorldFits w → (schedule : Schedule) (a : Attempt) → IsTask w.shape a.task
    → (c : PlainCluster) (r : Reading) (made : List Made) → Leaves (read_inputs a.node (inputs w.shape a.task) (reading (nothing_read c))) made (gives (reading r))
    → (answers : List Answer) → AreReadFrom w a made answers
    → ReadingIsRight w schedule a r answers

-- a need of the attempt had no copy left
pub record IsStarved (a : Attempt) (c : PlainCluster) : Type 0 where
  pub lines : List Entry
  pub last : c.journal ≡ lines ++ Starve a.task a.node ∷ []

-- for each file that the attempt wrote it computes the value of its name, and a test that was not starved computes its own
pub record DoneIsRight (w : World) (a : Attempt) (after : PlainCluster) (made : List Made) (answers : List Answer) : Type 0 where
  pub writes : (node : ℕ) (name : Name) → IsIn (Write node name) (calls_of made) → computed w.means w.shape a.task answers name ≡ value_of w name
  pub test : (i p : ℕ) → a.task ≡ Test i p → IsStarved a after ⊎ (tested w.means i answers ≡ test_of w i p)

-- an attempt that is done, and read values, made values
abbrev pub AttemptsAreRight : Type 0
AttemptsAreRight =
    (w : World) → WorldFits w → (schedule : Schedule) (a : Attempt) → IsTask w.shape a.task
    → (c after : PlainCluster) (made : List Made) → Leaves (attempt_done (setup_of w schedule) a c) made (gives after)
    → (answers : List Answer) → AreReadFrom w a made answers
    → DoneIsRight w a after made answers

-- and so far as it came: for each file that it wrote it computes the value of its name, whatever it was still to do
abbrev pub WritesAreRight : Type 0
WritesAreRight =
    (w : World) → WorldFits w → (schedule : Schedule) (a : Attempt) → IsTask w.shape a.task
    → (c : PlainCluster) (rest : Plan PlainCluster) (made : List Made) → Leaves (attempt_done (setup_of w schedule) a c) made rest
    → (answers : List Answer) → AreReadFrom w a made answers
    → (node : ℕ) (name : Name) → IsIn (Write node name) (calls_of made) → computed w.means w.shape a.task answers name ≡ value_of w name

-- the parts of the last step in round i, read as values, are what the chain leaves
abbrev pub PartsAreRead : Type 0
PartsAreRead =
    (w : World) → IsWellFormed w.shape → (i : ℕ) (answers : List Answer) → 1 ≤ i → names_of answers ≡ last_outs w.shape i → AreOfValues w 0 answers
    → map (λ (a : Answer). a.list) answers ≡ last_out w.means w.shape w.tables i
