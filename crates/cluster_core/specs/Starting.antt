-- Which task is the next to start.
use Rattle.std.specs.Prelude.{ℕ, Bool, ◌&&◌, not, List, Option}
use Rattle.std.specs.List.{list_any}
use Rattle.node_names.specs.declared.name.Name.TheVariants.{Spill, Out}
use Rattle.node_names.specs.declared.task.Task.{Task}
use Rattle.node_names.specs.declared.task.Task.TheVariants.{Map, Reduce, Test}
use Rattle.replica_table.specs.Copies.{Replicas}
use Rattle.loop_scheduler.specs.Reads.{can_read}
use Rattle.run_model.specs.Needs.{View, is_up}
use Rattle.run_model.specs.State.{bare}
use Rattle.run_model.specs.Tasks.{is_task}
use Rattle.run_model.specs.declared.attempt.Attempt.{Attempt}
use Rattle.cluster_core.specs.States.{known_at}

-- the task is made: its file lies on an up node; of a test, its value is known
abbrev pub made_at : Replicas → List (Option ℕ) → Task → Bool
made_at table values (Map i j s q) = is_up (bare table.copies) table.up (Spill i j s q)
made_at table values (Reduce i j p) = is_up (bare table.copies) table.up (Out i j p)
made_at table values (Test i p) = known_at values p

-- the task is not made, does not run, and can read what it needs
abbrev pub can_start : View → Replicas → List (Option ℕ) → List Attempt → Task → Bool
can_start view table values running task = not (made_at table values task) && (not (list_any (λ (a : Attempt). is_task task a.task) running) && can_read view task)
