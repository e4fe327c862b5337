-- What a load leaves: the cluster's table.
use Rattle.std.specs.Prelude.{◌≡◌, ℕ, List}
use Rattle.hal_base.specs.declared.record.Record.{Record}
use Rattle.hal_base.specs.declared.shape.Shape.{Shape}
use Rattle.name_values.specs.Values.{World}
use Rattle.replica_table.specs.Copies.{Replicas}
use Rattle.run_model.specs.Lists.{below}
use Rattle.run_model.specs.Runs.{loaded}
use Rattle.run_model.specs.State.{Setup, bare}
use Rattle.schedule_text.specs.declared.schedule.Schedule.{Schedule}

-- a program's shape with its schedule
abbrev pub setup_of : Shape → Schedule → Setup
setup_of shape schedule = record { shape = shape; schedule = schedule }

-- the table of the cluster after load
pub record IsLoaded (setup : Setup) (table : Replicas) : Type 0 where
  pub nodes : table.nodes ≡ setup.schedule.nodes
  pub up : table.up ≡ below setup.schedule.nodes
  pub copies : bare table.copies ≡ (loaded setup).copies

-- a world of this shape and of these tables, with so many records in a block
pub record IsOver (shape : Shape) (tables : List (List Record)) (block : ℕ) (w : World) : Type 0 where
  pub same_shape : w.shape ≡ shape
  pub same_tables : w.tables ≡ tables
  pub same_block : w.block ≡ block
