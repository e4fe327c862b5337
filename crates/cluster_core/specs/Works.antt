-- What work on a cluster rests on, and what becomes of attempts.
use Rattle.std.specs.Prelude.{◌≡◌, ℕ, ◌<◌, ◌≤◌, List, Option, None, Some, IsSome, slice_get}
use Rattle.hal_base.specs.declared.record.Record.{Record}
use Rattle.hal_base.specs.Meaning.{Meaning}
use Rattle.hal_outside.specs.declared.disks.Disks.{Ghosts as Disks}
use Rattle.hal_outside.specs.DiskTold.{DiskTold}
use Rattle.node_names.specs.declared.task.Task.{Task}
use Rattle.name_values.specs.Values.{World}
use Rattle.plain_job.specs.Ends.{Reaches}
use Rattle.run_laws.specs.Rounds.{round_in}
use Rattle.run_laws.specs.States.{IsNow, Once}
use Rattle.run_laws.specs.WithoutLoss.{HasNoCaches}
use Rattle.run_model.specs.Acts.{failures_of}
use Rattle.run_model.specs.Lists.{IsIn}
use Rattle.run_model.specs.State.{PlainCluster, Setup}
use Rattle.run_model.specs.Tasks.{IsTask}
use Rattle.run_model.specs.declared.attempt.Attempt.{Attempt}
use Rattle.task_values.specs.Tests.{test_of}
use Rattle.task_values.specs.Worlds.{WorldFits}
use Rattle.valid_copies.specs.RightCalls.{RightWork}
use Rattle.valid_copies.specs.Stands.{Stands}
use Rattle.cluster_core.specs.States.{Kept}

-- nothing is kept in caches; each running attempt is at a task of the shape, of a round that the program may have and, of tests, of this one, on a node that there is, and alone at its
-- task; and no task failed too often
pub record CanWork (setup : Setup) (c : PlainCluster) : Type 0 where
  pub caches : HasNoCaches setup.shape
  pub once : Once c.running
  pub tasks : (a : Attempt) → IsIn a c.running → IsTask setup.shape a.task
  pub nodes : (a : Attempt) → IsIn a c.running → a.node < setup.schedule.nodes
  pub rounds : (a : Attempt) → IsIn a c.running → round_in a.task ≤ setup.shape.rounds
  pub now : (a : Attempt) → IsIn a c.running → IsNow c.round a.task
  pub failures : (task : Task) → failures_of task c.failures < setup.schedule.attempts

-- what a cluster computes over some tables
abbrev pub world_of : Meaning → Setup → List (List Record) → World
world_of m setup tables = record { means = m; shape = setup.shape; tables = tables; block = setup.schedule.block }

-- copies are valid, the values of tests are right, and the chain comes to the round
pub record StandsFor (w : World) (kept : Kept) (told : Option DiskTold) : Type 0 where
  pub reached : Reaches w.means w.shape w.tables kept.round
  pub copies : Stands w kept.table.copies told
  pub values : (p value : ℕ) → slice_get kept.values p ≡ Some (Some value) → value ≡ test_of w kept.round p

-- where functions and tables fit, the disks tell and show their damage, and the state is right, so is the new one
abbrev pub StaysRight : Meaning → Setup → Type 0 → Option DiskTold → Option DiskTold → Kept → Kept → Type 0
StaysRight m setup shows before after old new =
    (tables : List (List Record)) → WorldFits (world_of m setup tables) → shows → IsSome before → StandsFor (world_of m setup tables) old before → StandsFor (world_of m setup tables) new after

-- the same, whatever the disks hold then: the kept digests and the values of tests are right, and the chain comes to the round
abbrev pub KeepsRight : Meaning → Setup → Type 0 → Option DiskTold → Kept → Kept → Type 0
KeepsRight m setup shows before old new = StaysRight m setup shows before None old new

-- P of what a cluster computes over any tables that fit, as the functions do, where the disks tell and the state is right
abbrev pub OverRight : Meaning → Setup → Option DiskTold → Kept → (World → Type 0) → Type 0
OverRight m setup told kept P = (tables : List (List Record)) → WorldFits (world_of m setup tables) → IsSome told → StandsFor (world_of m setup tables) kept told → P (world_of m setup tables)

-- then, and where the disks show their damage, each call that was added is right; over sound disks no read missed, and p
abbrev pub CallsRight : {D : Type 0} → Disks D → Meaning → Setup → Kept → D → D → Type 0 → Type 0
CallsRight g m setup kept old new p = g.shows_damage old → OverRight m setup (g.told old) kept (λ w. RightWork g w old new p)
