-- The cluster as it is seen: the state of the machine, with the digests of its copies and the values of its tests.
use Rattle.std.specs.Prelude.{◌≡◌, ℕ, suc, Bool, true, false, List, [], ◌∷◌, Option, None, Some, drop, length, slice_get}
use Rattle.hal_base.specs.declared.shape.Shape.{Shape}
use Rattle.node_names.specs.declared.task.Task.{Task}
use Rattle.replica_table.specs.Copies.{Replicas}
use Rattle.schedule_text.specs.Schedules.{KeepsLimits}
use Rattle.schedule_text.specs.declared.schedule.Schedule.{Schedule}
use Rattle.counter_report.specs.declared.journal.Entry.{Entry}
use Rattle.loop_scheduler.specs.Views.{IsCounted}
use Rattle.run_model.specs.State.{PlainCluster, Setup, bare}
use Rattle.run_model.specs.Tasks.{tasks_of_round, test_count}
use Rattle.run_model.specs.declared.attempt.Attempt.{Attempt}
use Rattle.run_model.specs.declared.attempt.Failed.{Failed}

-- the numbers, from this one on, of the values that are known
abbrev pub known_from : ℕ → List (Option ℕ) → List ℕ
known_from p [] = []
known_from p (None ∷ values) = known_from (suc p) values
known_from p (Some value ∷ values) = p ∷ known_from (suc p) values

-- the tests whose value is known
abbrev pub known_in : List (Option ℕ) → List ℕ
known_in values = known_from 0 values

-- whether there is a value
abbrev pub is_known : Option ℕ → Bool
is_known None = false
is_known (Some value) = true

-- and where there may be no place for one
abbrev pub is_known_of : Option (Option ℕ) → Bool
is_known_of None = false
is_known_of (Some value) = is_known value

-- the value of this number is known
abbrev pub known_at : List (Option ℕ) → ℕ → Bool
known_at values n = is_known_of (slice_get values n)

-- what a cluster keeps: the round, its copies, the values of the round's tests, running attempts, failures, how many events are
-- spent, and the journal
pub record Kept : Type 0 where
  pub round : ℕ
  pub table : Replicas
  pub values : List (Option ℕ)
  pub running : List Attempt
  pub failures : List Failed
  pub spent : ℕ
  pub journal : List Entry

-- the state of the machine
abbrev pub plain_of : Schedule → Kept → PlainCluster
plain_of schedule kept = record {
  round = kept.round;
  up = kept.table.up;
  marked = [];
  copies = bare kept.table.copies;
  running = kept.running;
  known = known_in kept.values;
  failures = kept.failures;
  events = drop kept.spent schedule.events;
  journal = kept.journal;
}

-- the cluster as it is seen
pub record Seen : Type 0 where
  pub setup : Setup
  pub kept : Kept
  pub plain : PlainCluster

-- the cluster that has this shape and schedule, and keeps this
abbrev pub seen_of : Shape → Schedule → Kept → Seen
seen_of shape schedule kept = record { setup = record { shape = shape; schedule = schedule }; kept = kept; plain = plain_of schedule kept }

-- what each cluster keeps of its shape, its schedule and its tests
pub record IsKept (shape : Shape) (schedule : Schedule) (kept : Kept) (tasks : List Task) : Type 0 where
  pub counted : IsCounted shape
  pub limits : KeepsLimits schedule
  pub nodes : kept.table.nodes ≡ schedule.nodes
  pub tests : length kept.values ≡ test_count shape
  pub tasks_are : tasks ≡ tasks_of_round shape kept.round
