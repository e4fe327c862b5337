-- The files of a load, one after another, and how far they are written.
use Rattle.std.specs.Prelude.{◌≡◌, ℕ, ◌*◌, List, [], ◌++◌, Option, None, Some, IsSome, drop, length, map, slice_get, slice_index, take}
use Rattle.std.specs.List.{AllByRecursion, flat_map}
use Rattle.hal_base.specs.declared.fields.Schema.{Schema}
use Rattle.hal_base.specs.declared.record.Record.{Record}
use Rattle.hal_base.specs.declared.shape.Shape.{Shape}
use Rattle.hal_outside.specs.declared.disks.Disks.{Ghosts as Disks}
use Rattle.hal_outside.specs.DiskCalls as disk
use Rattle.hal_outside.specs.DiskTold.{DiskTold}
use Rattle.loop_scheduler.specs.Views.{IsCounted}
use Rattle.name_values.specs.Values.{World, value_of}
use Rattle.node_names.specs.declared.name.Name.TheVariants.{Blk}
use Rattle.plain_job.specs.Chain.{table_at}
use Rattle.plain_job.specs.Fit.{TablesFit}
use Rattle.record_blocks.specs.Blocks.{block_text}
use Rattle.replica_table.specs.Copies.{Replicas}
use Rattle.run_model.specs.Lists.{below}
use Rattle.run_model.specs.Runs.{node_of}
use Rattle.run_model.specs.State.{Setup}
use Rattle.schedule_text.specs.Schedules.{KeepsLimits}
use Rattle.schedule_text.specs.declared.schedule.Schedule.{Schedule}
use Rattle.valid_copies.specs.Calls.{Added}
use Rattle.valid_copies.specs.Readings.{IsTextOf}
use Rattle.valid_copies.specs.Stands.{Stands}
use Rattle.valid_copies.specs.Writes.{FileWrite, Wrote, WroteSome, write_at, write_of}
use Rattle.cluster_core.specs.Disks.{Leaves}

-- a shape and a schedule within their limits, and tables that fit
pub record CanLoad (shape : Shape) (schedule : Schedule) (tables : List (List Record)) : Type 0 where
  pub counted : IsCounted shape
  pub limits : KeepsLimits schedule
  pub fit : TablesFit shape tables

-- ---- files

-- block b of table t, where a block has so many records
abbrev pub block_rows : ℕ → List (List Record) → ℕ → ℕ → List Record
block_rows size tables t b = take size (drop (b * size) (table_at tables t))

-- the text of a block's records; none where there is no schema
abbrev pub text_in : Option Schema → List Record → List ℕ
text_in None rows = []
text_in (Some schema) rows = block_text schema rows

-- its text
abbrev pub block_bytes : Setup → List (List Record) → ℕ → ℕ → List ℕ
block_bytes setup tables t b = text_in (slice_get setup.shape.tables t) (block_rows setup.schedule.block tables t b)

-- copy k of a block with these bytes, on its node
abbrev pub copy_of : ℕ → ℕ → ℕ → List ℕ → ℕ → FileWrite
copy_of nodes t b bytes k = write_at (node_of t b k nodes) (Blk t b) bytes

-- all copies of it
abbrev pub copies_of : Schedule → ℕ → ℕ → List ℕ → List FileWrite
copies_of schedule t b bytes = map (copy_of schedule.nodes t b bytes) (below schedule.copies)

-- the files of a block
abbrev pub block_files : Setup → List (List Record) → ℕ → ℕ → List FileWrite
block_files setup tables t b = copies_of setup.schedule t b (block_bytes setup tables t b)

-- the files of a table, block after block
abbrev pub table_files : Setup → List (List Record) → ℕ → List FileWrite
table_files setup tables t = flat_map (block_files setup tables t) (below (slice_index setup.shape.blocks t))

-- all files of a load, in order
abbrev pub load_files : Setup → List (List Record) → List FileWrite
load_files setup tables = flat_map (table_files setup tables) (below (length setup.shape.blocks))

-- the file has the text of its name
abbrev pub HasItsText : World → FileWrite → Type 0
HasItsText w file = IsTextOf w.shape file.name file.bytes (value_of w file.name)

-- ---- how far

-- these files were written, and the table has their copies; copies that are valid stay so, if the files have their texts
pub record Filled {D : Type 0} (g : Disks D) (files : List FileWrite) (old : D) (first last : Replicas) (new : D) : Type 0 where
  pub wrote : Wrote (g.told old) first files last (g.told new)
  pub valid : (w : World) → AllByRecursion (HasItsText w) files → Stands w first.copies (g.told old) → Stands w last.copies (g.told new)
  pub disks : Leaves g first.nodes old new
  pub not_missed : IsSome (g.told old) → g.misses new ≡ g.misses old

-- some of these files were written, in order
pub record FilledSome {D : Type 0} (g : Disks D) (files : List FileWrite) (old : D) (first last : Replicas) (new : D) : Type 0 where
  pub wrote : WroteSome (g.told old) first files last (g.told new)
  pub disks : Leaves g first.nodes old new
  pub not_missed : IsSome (g.told old) → g.misses new ≡ g.misses old

-- ---- calls

-- all calls of a load
abbrev pub load_calls : Setup → List (List Record) → List disk.Call
load_calls setup tables = map disk.Wipe (below setup.schedule.nodes) ++ map write_of (load_files setup tables)

-- some of these calls were added, in order
pub record AddedSome (all : List disk.Call) (before after : Option DiskTold) : Type 0 where
  pub calls : List disk.Call
  pub left : List disk.Call
  pub whole : calls ++ left ≡ all
  pub added : Added before calls after

-- a table of so many nodes, all of them up, which hold nothing
abbrev pub empty_table : ℕ → Replicas
empty_table nodes = record { nodes = nodes; up = below nodes; copies = [] }
