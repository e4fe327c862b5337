-- The value of each name, over the chain by round, step and part.
use Rattle.std.specs.Prelude.{ℕ, ◌-◌, ◌*◌, ◌==◌, if◌then◌else◌, List, [], Option, None, Some, length, take, drop}
use Rattle.hal_base.specs.declared.record.Record.{Record}
use Rattle.hal_base.specs.declared.shape.Shape.{Shape}
use Rattle.hal_base.specs.declared.shape.Source.{Source}
use Rattle.hal_base.specs.declared.shape.Origin.{Origin}
use Rattle.hal_base.specs.declared.shape.Origin.TheVariants.{State, Prev, Table}
use Rattle.hal_base.specs.Meaning.{Meaning}
use Rattle.hal_base.specs.Order.{record_cmp}
use Rattle.hal_base.specs.Shapes.{source_at}
use Rattle.hal_base.specs.Sorted.{sorted}
use Rattle.plain_job.specs.Chain.{out, stream_of, table_at}
use Rattle.plain_job.specs.Laws.{part}
use Rattle.sorted_parts.specs.Spills.{spilled}
use Rattle.node_names.specs.declared.name.Name.{Name}
use Rattle.node_names.specs.declared.name.Name.TheVariants.{Blk, Spill, Out, Ric, Mic, Roc}

-- what a cluster computes: what the functions mean, the shape, the tables, and how many records a block has
pub record World : Type 0 where
  pub means : Meaning
  pub shape : Shape
  pub tables : List (List Record)
  pub block : ℕ

-- what a file holds: records, or records by parts
pub data Held : Type 0 where
  Rows : List Record → Held
  Parts : List (List Record) → Held

-- the list that a file holds, or its section of this part
abbrev pub list_of : ℕ → Held → List Record
list_of p (Rows rows) = rows
list_of p (Parts sections) = table_at sections p

-- part p of what step j leaves in round i
abbrev pub out_of : World → ℕ → ℕ → ℕ → List Record
out_of w i j p = out w.means w.shape w.tables i j p

-- the number of the last step
abbrev pub last : Shape → ℕ
last shape = length shape.steps

-- block b of table t
abbrev pub block_of : World → ℕ → ℕ → List Record
block_of w t b = take w.block (drop (b * w.block) (table_at w.tables t))

-- split q of what a source of step j reads in round i: a block of a table, or a part of what a step left
abbrev pub split_of : World → ℕ → ℕ → Origin → ℕ → List Record
split_of w i j State q = if i == 1 then block_of w w.shape.start q else out_of w (i - 1) (last w.shape) q
split_of w i j Prev q = out_of w i (j - 1) q
split_of w i j (Table t None) q = block_of w t q
split_of w i j (Table t (Some only)) q = if i == only then block_of w t q else []

-- the same of a source that may not be there
abbrev pub split_at : World → ℕ → ℕ → Option Source → ℕ → List Record
split_at w i j None q = []
split_at w i j (Some source) q = split_of w i j source.from q

-- the records of the stream of source s of step j in round 1 whose keys are of part p, in order
abbrev pub cached_of : World → ℕ → ℕ → ℕ → List Record
cached_of w j s p = sorted record_cmp (part (λ key. w.means.partition 1 j key == p) (stream_of w.means w.shape w.tables 1 j s))

-- the value of a name
abbrev pub value_of : World → Name → Held
value_of w (Blk t b) = Rows (block_of w t b)
value_of w (Spill i j s q) = Parts (spilled w.means i j s (split_at w i j (source_at w.shape j s) q) w.shape.parts)
value_of w (Out i j p) = Rows (out_of w i j p)
value_of w (Ric j s p) = Rows (cached_of w j s p)
value_of w (Mic t b) = Rows (block_of w t b)
value_of w (Roc i p) = Rows (sorted record_cmp (out_of w i (last w.shape) p))
