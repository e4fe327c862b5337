-- What a task computes from lists of records: the text of its file, or the value of a test.
use Rattle.std.specs.Prelude.{◌≡◌, ℕ, true, List, [], ◌∷◌, Some, drop, map, take}
use Rattle.hal_base.specs.declared.record.Record.{Record}
use Rattle.hal_base.specs.declared.shape.Shape.{Shape}
use Rattle.hal_base.specs.declared.shape.Source.{Source}
use Rattle.hal_base.specs.declared.shape.Step.{Step}
use Rattle.hal_base.specs.Meaning.{Meaning}
use Rattle.hal_base.specs.Shapes.{source_at, step_at}
use Rattle.name_values.specs.Values.{World, value_of}
use Rattle.node_names.specs.declared.name.Name.TheVariants.{Out, Spill}
use Rattle.node_names.specs.declared.task.Task.{Task}
use Rattle.node_names.specs.declared.task.Task.TheVariants.{Map, Reduce, Test}
use Rattle.partition_shuffle.specs.SpillTexts.{IsSpill}
use Rattle.plain_job.specs.Chain.{together}
use Rattle.plain_job.specs.Distances.{distance_by}
use Rattle.plain_job.specs.Job.{job}
use Rattle.record_blocks.specs.Blocks.{IsBlock}
use Rattle.sorted_parts.specs.Spills.{spilled}
use Rattle.task_values.specs.Tests.{test_of}
use Rattle.valid_copies.specs.Readings.{IsTextOf}
use Rattle.task_outputs.specs.Given.{AreSections, AreTaken}
use Rattle.cluster_core.specs.declared.output.Output.{Output}
use Rattle.cluster_core.specs.declared.output.Output.TheVariants.{File, Value}

-- a map has one list, of records that its source takes
pub record IsSplit (shape : Shape) (j s : ℕ) (inputs : List (List (List Record))) : Type 0 where
  pub rows : List Record
  pub alone : inputs ≡ (rows ∷ []) ∷ []
  pub taken : AreTaken shape j s rows

-- the lists are such as a task computes from
abbrev pub CanCompute : Shape → Task → List (List (List Record)) → Type 0
CanCompute shape (Map i j s q) inputs = IsSplit shape j s inputs
CanCompute shape (Reduce i j p) inputs = AreSections shape j inputs
CanCompute shape (Test i p) inputs = Unit {0}

-- the output of a task over these lists: of a map its spill, of a reduce its block, and of a test how far the new parts, which
-- come first, are from the old ones
abbrev pub IsMade : Meaning → Shape → Task → List (List (List Record)) → Output → Type 0
IsMade m shape (Map i j s q) inputs (File name bytes) = (name ≡ Spill i j s q) × ((rows : List Record) → inputs ≡ (rows ∷ []) ∷ [] → (it : Source) → source_at shape j s ≡ Some it → IsSpill it.stream bytes.items (spilled m i j s rows shape.parts))
IsMade m shape (Map i j s q) inputs (Value part value) = ⊥
IsMade m shape (Reduce i j p) inputs (File name bytes) = (name ≡ Out i j p) × ((it : Step) → step_at shape j ≡ Some it → IsBlock it.out bytes.items (job (m.reduce i j) (λ _. true) (map together inputs)))
IsMade m shape (Reduce i j p) inputs (Value part value) = ⊥
IsMade m shape (Test i p) inputs (File name bytes) = ⊥
IsMade m shape (Test i p) inputs (Value part value) = (part ≡ p) × ((parts : List (List Record)) → inputs ≡ parts ∷ [] → value ≡ distance_by m.distance (together (drop shape.parts parts)) (together (take shape.parts parts)))

-- the output is right in this round: of a file the bytes are the text of its name's value, and a test has its value
abbrev pub IsRightOutput : World → ℕ → Output → Type 0
IsRightOutput w round (File name bytes) = IsTextOf w.shape name bytes.items (value_of w name)
IsRightOutput w round (Value part value) = value ≡ test_of w round part
