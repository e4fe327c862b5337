-- A run of the cluster, as the code makes it.
use Rattle.std.specs.Prelude.{◌≡◌, ◌≤◌, List, ◌∷◌, [], ◌++◌, IsSome, length}
use Rattle.cluster_core.specs.Clusters.{IsBegun, Progress}
use Rattle.cluster_core.specs.Deciding.{end_of}
use Rattle.cluster_core.specs.Loading.{IsOver}
use Rattle.cluster_core.specs.Works.{StandsFor}
use Rattle.name_values.specs.Values.{World}
use Rattle.run_model.specs.Plans.{gives}
use Rattle.run_model.specs.Runs.{load, loaded}
use Rattle.valid_copies.specs.Calls.{Begun, Follows}
use Rattle.cluster_core.specs.declared.fault.CoreFault.{CoreFault}
use Rattle.cluster_core.specs.declared.fault.CoreFault.TheVariants.{TaskFailed, NotBuilt, Device, Memory}
use Rattle.counter_report.specs.Tallies.{tally}
use Rattle.counter_report.specs.declared.journal.EndWord.{EndWord}
use Rattle.counter_report.specs.declared.journal.Entry.{Entry}
use Rattle.counter_report.specs.declared.journal.Entry.TheVariants as entry
use Rattle.hal_base.specs.declared.record.Record.{Record}
use Rattle.hal_outside.specs.Told.{Rose}
use Rattle.hal_outside.specs.declared.disks.Disks.{Ghosts as Disks}
use Rattle.loop_program.specs.Whole.{Whole}
use Rattle.node_names.specs.declared.task.Task.{Task}
use Rattle.plain_job.specs.Chain.{last_out}
use Rattle.plain_job.specs.Ends.{Ends}
use Rattle.run_model.specs.Lists.{number_of}
use Rattle.run_model.specs.State.{PlainCluster, Setup}
use Rattle.run_laws.specs.Telling.{fails_at}
use Rattle.schedule_text.specs.declared.schedule.Schedule.{Schedule}
use Rattle.haloop_run.specs.Meanings.{meaning_of}
use Rattle.haloop_run.specs.Replays.{broken, finished, missed, task_failed}
use Rattle.haloop_run.specs.Statuses.{AreTrue, DisksFailed, HasCopies, Ran}
use Rattle.haloop_run.specs.declared.replay.Replayed.{Replayed}

-- no more records than a table may have
abbrev pub AreFew : List Record → Type 0
AreFew rows = length rows ≤ 10000000

-- the cluster is loaded: it is as it begins, and stands for each world over these tables
pub record IsLoadedFor {D : Type 0} (d : Disks D) (setup : Setup) (tables : List (List Record)) (old new : D) (cluster : Progress) : Type 0 where
  pub calls : Follows (load setup) (d.told old) (d.told new) (gives (loaded setup))
  pub begun : IsBegun setup cluster
  pub stands : (w : World) → IsOver setup.shape tables setup.schedule.block w → StandsFor w cluster.state.kept (d.told new)

-- the load was not brought to its end
abbrev pub IsRefusedLoad : {D : Type 0} → Disks D → Setup → D → D → CoreFault → Type 0
IsRefusedLoad d setup old new (TaskFailed task) = ⊥
IsRefusedLoad d setup old new NotBuilt = ⊥
IsRefusedLoad d setup old new (Device device) = Begun (load setup) (d.told old) (d.told new) × DisksFailed d old new
IsRefusedLoad d setup old new Memory = Begun (load setup) (d.told old) (d.told new)

-- the run came to the end of the loop: the counts are those of its journal and, where the disks are true, the parts those of the chain
pub record IsReplayed {D : Type 0} (d : Disks D) (program : Whole) (schedule : Schedule) (tables : List (List Record)) (old new : D) (it : Replayed) : Type 0 where
  pub word : EndWord
  pub last : PlainCluster
  pub ran : Ran d program schedule tables old new last (finished word)
  pub before_end : List Entry
  pub ended : last.journal ≡ before_end ++ entry.End word last.round ∷ []
  pub copies : HasCopies d program schedule tables old new last
  pub report_is : it.report ≡ tally last.journal
  pub ends : AreTrue d old → Ends (meaning_of program) program.shape tables last.round (end_of word)
  pub parts : AreTrue d old → it.parts ≡ last_out (meaning_of program) program.shape tables last.round

-- a task failed too often
pub record FailedTask {D : Type 0} (d : Disks D) (program : Whole) (schedule : Schedule) (tables : List (List Record)) (old new : D) (task : Task) : Type 0 where
  pub last : PlainCluster
  pub ran : Ran d program schedule tables old new last (task_failed task)
  pub failures : number_of (fails_at task) last.journal ≡ schedule.attempts
  pub copies : HasCopies d program schedule tables old new last

-- why the run was refused, and what it did before
abbrev pub IsRefusedRun : {D : Type 0} → Disks D → Whole → Schedule → List (List Record) → D → D → CoreFault → Type 0
IsRefusedRun d program schedule tables old new (TaskFailed task) = FailedTask d program schedule tables old new task
IsRefusedRun d program schedule tables old new NotBuilt = (last : PlainCluster) × Ran d program schedule tables old new last missed × Rose (d.misses old) (d.misses new) × (d.sound old → IsSome (d.told old) → ⊥)
IsRefusedRun d program schedule tables old new (Device device) = (last : PlainCluster) × Ran d program schedule tables old new last broken × DisksFailed d old new
IsRefusedRun d program schedule tables old new Memory = (last : PlainCluster) × Ran d program schedule tables old new last broken
