-- Runs of the cluster, call by call.
use Rattle.std.specs.Prelude.{◌≡◌, ℕ, List, Option, length, map}
use Rattle.std.specs.Int.{div_ceil}
use Rattle.std.specs.List.{AllByRecursion}
use Rattle.counter_report.specs.declared.journal.EndWord.{EndWord}
use Rattle.cluster_core.specs.Works.{world_of}
use Rattle.hal_base.specs.declared.record.Record.{Record}
use Rattle.hal_outside.specs.DiskFiles.{file_at}
use Rattle.hal_outside.specs.DiskTold.{DiskTold}
use Rattle.loop_program.specs.Whole.{Whole, blocked}
use Rattle.name_values.specs.Values.{World}
use Rattle.node_names.specs.declared.task.Task.{Task}
use Rattle.run_model.specs.Plans as why
use Rattle.run_model.specs.Plans.{gives, refuses}
use Rattle.run_model.specs.Runs.{run}
use Rattle.run_model.specs.State.{Copy, PlainCluster, Setup}
use Rattle.run_model.specs.Turns.{ends}
use Rattle.schedule_text.specs.declared.schedule.Schedule.{Schedule}
use Rattle.valid_copies.specs.Calls.{Begun, Follows, MissedIn}
use Rattle.valid_copies.specs.Readings.{HasText}
use Rattle.valid_copies.specs.Texts.{text_of}
use Rattle.haloop_run.specs.Clearing.{cleared}
use Rattle.haloop_run.specs.Meanings.{meaning_of}

-- how many blocks there are of these records, of so many records each but for the last
abbrev pub block_count : ℕ → List Record → ℕ
block_count block rows = div_ceil (length rows) block

-- what a run is given: the program's shape, with the number of blocks of each table and with the caches that are built alone, and the schedule
abbrev pub setup_of : Whole → Schedule → List (List Record) → Setup
setup_of program schedule tables = record { shape = cleared (blocked program.shape (map (block_count schedule.block) tables)); schedule = schedule }

-- what it computes
abbrev pub computed : Whole → Schedule → List (List Record) → World
computed program schedule tables = world_of (meaning_of program) (setup_of program schedule tables) tables

-- how a run ends: the loop is at its end, a task failed too often, a read missed, or a device failed or memory ran out
pub data Ending : Type 0 where
  finished : EndWord → Ending
  task_failed : Task → Ending
  missed : Ending
  broken : Ending

-- the calls that were added are those of the machine's run under these decisions, which so ends in this state
abbrev pub RunsTo : Setup → (ℕ → Option EndWord) → Option DiskTold → Option DiskTold → PlainCluster → Ending → Type 0
RunsTo setup decisions before after last (finished word) = (n : ℕ) × Follows (run n setup decisions) before after (gives (ends last word))
RunsTo setup decisions before after last (task_failed task) = (n : ℕ) × Follows (run n setup decisions) before after (refuses last (why.TaskFailed task))
RunsTo setup decisions before after last missed = (n : ℕ) × MissedIn (run n setup decisions) before after
RunsTo setup decisions before after last broken = (n : ℕ) × Begun (run n setup decisions) before after

-- the text of its name was put to the node of a copy
abbrev pub IsPut : World → DiskTold → Copy → Type 0
IsPut w told copy = HasText w copy.name × (file_at told.put copy.node copy.name ≡ text_of w copy.name)

-- each of these copies has the text of its name
abbrev pub ArePut : World → List Copy → DiskTold → Type 0
ArePut w copies told = AllByRecursion (IsPut w told) copies
