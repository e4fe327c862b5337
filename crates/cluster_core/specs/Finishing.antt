-- An attempt that is done: what it read, what it writes, and what becomes of the cluster.
use Rattle.std.specs.Prelude.{◌≡◌, ◌<◌, ◌≤◌, ◌==◌, ◌&&◌, ◌%◌, Bool, false, List, Option, None, Some, IsSome}
use Rattle.std.specs.List.{AllByRecursion}
use Rattle.hal_base.specs.declared.record.Record.{Record}
use Rattle.loop_scheduler.specs.Reads.{files_of}
use Rattle.name_values.specs.Values.{World}
use Rattle.task_values.specs.Reads.{part_in}
use Rattle.valid_copies.specs.Files.{Desk, FileRead, ReadsText}
use Rattle.valid_copies.specs.Inputs.{EachRead, calls_of, rows_in}
use Rattle.valid_copies.specs.Stands.{Stands}
use Rattle.cluster_core.specs.States.{Seen}
use Rattle.cluster_core.specs.declared.attempt.Read.{Read}
use Rattle.hal_outside.specs.DiskTold.{DiskTold}
use Rattle.node_names.specs.declared.task.Task.{Task}
use Rattle.node_names.specs.declared.task.Task.TheVariants.{Map, Reduce, Test}
use Rattle.run_laws.specs.Rounds.{round_in}
use Rattle.run_laws.specs.WithoutLoss.{HasNoCaches}
use Rattle.run_model.specs.Attempts.{commit, writes, written}
use Rattle.run_model.specs.Plans.{Plan, do_all, gives}
use Rattle.run_model.specs.Needs.{inputs}
use Rattle.run_model.specs.Reading.{ReadSoFar, nothing_read, read_inputs, reading, starved}
use Rattle.run_model.specs.State.{PlainCluster, Setup, with_copies}
use Rattle.run_model.specs.Tasks.{IsTask, last}
use Rattle.run_model.specs.declared.attempt.Attempt.{Attempt}
use Rattle.valid_copies.specs.Calls.{Added, Begun, Follows}
use Rattle.valid_copies.specs.ReadCounts.{read_so_far}
use Rattle.valid_copies.specs.declared.inputs.ReadCounts.{ReadCounts}

-- nothing is kept in caches, and the attempt is at a task of the shape, of a round that the program may have, on a node that there is
pub record CanFinish (setup : Setup) (a : Attempt) : Type 0 where
  pub caches : HasNoCaches setup.shape
  pub task : IsTask setup.shape a.task
  pub round : round_in a.task ≤ setup.shape.rounds
  pub node : a.node < setup.schedule.nodes

-- the task makes what goes to further nodes: an output of the last step, in a round that `keep` divides
abbrev pub goes_further : Setup → Task → Bool
goes_further setup (Map i j s q) = false
goes_further setup (Reduce i j p) = (j == last setup.shape) && (i % setup.schedule.keep == 0)
goes_further setup (Test i p) = false

-- all that the attempt writes was written, whatever it read, by these calls and no others, and the cluster has the copies
pub record WroteAll (setup : Setup) (a : Attempt) (old new : PlainCluster) (before after : Option DiskTold) : Type 0 where
  pub follows : (counts : ReadCounts) (rest : Plan PlainCluster) → Follows (do_all (writes setup a (read_so_far counts old)) rest) before after rest
  pub copies : (counts : ReadCounts) → new ≡ with_copies (written (writes setup a (read_so_far counts old)) old.copies) old

-- some of what the attempt writes was written
abbrev pub BeganToWrite : Setup → Attempt → PlainCluster → Option DiskTold → Option DiskTold → Type 0
BeganToWrite setup a old before after = (counts : ReadCounts) (rest : Plan PlainCluster) → Begun (do_all (writes setup a (read_so_far counts old)) rest) before after

-- the plan of an attempt that read so many files
abbrev pub commit_plan : Setup → Attempt → ReadCounts → PlainCluster → Plan PlainCluster
commit_plan setup a counts c = commit setup a (reading (read_so_far counts c))

-- ---- what an attempt reads

-- where the attempt reads
abbrev pub desk_of : Seen → Attempt → Desk
desk_of seen a = record { shape = seen.setup.shape; table = seen.kept.table; own = a.node; part = part_in a.task }

-- the plan to read what the attempt needs
abbrev pub read_plan : Seen → Attempt → Plan ReadSoFar
read_plan seen a = read_inputs a.node (inputs seen.setup.shape a.task) (reading (nothing_read seen.plain))

-- all that the attempt needs was read: for each input the records of its files, and so many files in all, by one call for
-- each file; where the disks show their damage and the copies are valid, texts were read
pub record HasRead (seen : Seen) (a : Attempt) (shows : Type 0) (before after : Option DiskTold) (counts : ReadCounts) (lists : List (List (List Record))) : Type 0 where
  pub reads : List (List FileRead)
  pub each : EachRead (desk_of seen a) (files_of seen.setup.shape a.task) reads
  pub rows : lists ≡ rows_in reads
  pub added : Added before (calls_of reads) after
  pub texts : shows → IsSome before → (w : World) → Stands w seen.kept.table.copies before → AllByRecursion (AllByRecursion (ReadsText w)) reads
  pub follows : Follows (read_plan seen a) before after (gives (reading (read_so_far counts seen.plain)))

-- all that the attempt needs was read, or it is starved
abbrev pub ReadOrStarved : Seen → Attempt → Type 0 → Option DiskTold → Option DiskTold → Option Read → Type 0
ReadOrStarved seen a shows before after None = Follows (read_plan seen a) before after (gives (starved seen.plain))
ReadOrStarved seen a shows before after (Some it) = HasRead seen a shows before after it.counts it.lists.items
