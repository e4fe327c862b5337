-- What tasks make is of the schemas that the shape names, where what they read is; and so are the values of names.
use Rattle.std.specs.Prelude.{◌≡◌, ℕ, ◌<◌, ◌≤◌, List, Some, slice_get}
use Rattle.std.specs.List.{AllByRecursion}
use Rattle.hal_base.specs.declared.fields.Schema.{Schema}
use Rattle.hal_base.specs.declared.shape.Shape.{Shape}
use Rattle.hal_base.specs.declared.shape.Source.{Source}
use Rattle.hal_base.specs.declared.shape.Step.{Step}
use Rattle.hal_base.specs.Meaning.{Meaning}
use Rattle.hal_base.specs.Shapes.{out_schema, source_at, step_at, taken}
use Rattle.plain_job.specs.Fit.{AreRecordsOf, FunctionsFit}
use Rattle.node_names.specs.declared.name.Name.TheVariants.{Blk, Mic, Out, Ric, Roc, Spill}
use Rattle.node_names.specs.declared.task.Task.TheVariants.{Map, Reduce}
use Rattle.name_values.specs.Values.{Held, Parts, Rows, World, value_of}
use Rattle.run_model.specs.Tasks.{count_in, last}
use Rattle.task_values.specs.Reads.{Answer, all_lists, computed, of_source}
use Rattle.task_values.specs.Worlds.{WorldFits}

-- all records are of this schema
abbrev pub IsHeldOf : Schema → Held → Type 0
IsHeldOf schema (Rows rows) = AreRecordsOf schema rows
IsHeldOf schema (Parts parts) = AllByRecursion (AreRecordsOf schema) parts

-- a map that read records of the schema that its source takes makes records of the schema of its stream, and a cache of the former
pub record MapFits (m : Meaning) (shape : Shape) (i j s : ℕ) (source : Source) (schema : Schema) (answers : List Answer) : Type 0 where
  pub spill : (q : ℕ) → IsHeldOf source.stream (computed m shape (Map i j s q) answers (Spill i j s q))
  pub block : (q t b : ℕ) → IsHeldOf schema (computed m shape (Map i j s q) answers (Mic t b))

-- each map of a round that the program may have makes records of its schemas
abbrev pub MapsFit : Type 0
MapsFit =
    (m : Meaning) (shape : Shape) → FunctionsFit m shape → (i j s : ℕ) (source : Source) (schema : Schema) (answers : List Answer)
    → i ≤ shape.rounds → source_at shape j s ≡ Some source → taken shape j source.from ≡ Some schema → AreRecordsOf schema (all_lists answers)
    → MapFits m shape i j s source schema answers

-- what was read for each source of step j is of the schema of its stream
abbrev pub StreamsRead : Shape → ℕ → List Answer → Type 0
StreamsRead shape j answers = (s : ℕ) (source : Source) → source_at shape j s ≡ Some source → AreRecordsOf source.stream (all_lists (of_source s answers))

-- a reduce that read records of the schemas of its streams makes records of the schema of its step, and caches of the former
pub record ReduceFits (m : Meaning) (shape : Shape) (i j p : ℕ) (step : Step) (answers : List Answer) : Type 0 where
  pub output : IsHeldOf step.out (computed m shape (Reduce i j p) answers (Out i j p))
  pub output_kept : IsHeldOf step.out (computed m shape (Reduce i j p) answers (Roc i p))
  pub input_kept : (s : ℕ) (source : Source) → source_at shape j s ≡ Some source → IsHeldOf source.stream (computed m shape (Reduce i j p) answers (Ric j s p))

-- each reduce of a round that the program may have makes records of its schemas
abbrev pub ReducesFit : Type 0
ReducesFit =
    (m : Meaning) (shape : Shape) → FunctionsFit m shape → (i j p : ℕ) (step : Step) (answers : List Answer)
    → i ≤ shape.rounds → step_at shape j ≡ Some step → StreamsRead shape j answers
    → ReduceFits m shape i j p step answers

-- ---- values

-- in the rounds that the program may have, the value of each name is of the schema of its table, source or step
pub record AreOfSchemas (w : World) : Type 0 where
  pub blocks : (t b : ℕ) (schema : Schema) → slice_get w.shape.tables t ≡ Some schema → IsHeldOf schema (value_of w (Blk t b))
  pub block_caches : (t b : ℕ) (schema : Schema) → slice_get w.shape.tables t ≡ Some schema → IsHeldOf schema (value_of w (Mic t b))
  pub spills : (i j s q : ℕ) (source : Source) → 1 ≤ i → i ≤ w.shape.rounds → source_at w.shape j s ≡ Some source → q < count_in w.shape i (source_at w.shape j s) → IsHeldOf source.stream (value_of w (Spill i j s q))
  pub input_caches : (j s p : ℕ) (source : Source) → source_at w.shape j s ≡ Some source → IsHeldOf source.stream (value_of w (Ric j s p))
  pub outputs : (i j p : ℕ) (schema : Schema) → 1 ≤ i → i ≤ w.shape.rounds → out_schema w.shape j ≡ Some schema → IsHeldOf schema (value_of w (Out i j p))
  pub output_caches : (i p : ℕ) (schema : Schema) → 1 ≤ i → i ≤ w.shape.rounds → out_schema w.shape (last w.shape) ≡ Some schema → IsHeldOf schema (value_of w (Roc i p))

-- where functions and tables fit, values are of their schemas
abbrev pub ValuesFit : Type 0
ValuesFit = (w : World) → WorldFits w → AreOfSchemas w
