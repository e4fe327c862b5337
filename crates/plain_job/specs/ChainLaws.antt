-- Laws of chains: the chain by numbers, its one end, its distances part by part, and the schemas of what it leaves.
use Rattle.std.specs.Prelude.{◌≡◌, ℕ, ◌+◌, ◌<◌, ◌≤◌, min, sum, true, false, List, Some, length, map}
use Rattle.std.specs.List.{AllByRecursion}
use Rattle.hal_base.specs.declared.fields.Schema.{Schema}
use Rattle.hal_base.specs.declared.record.Record.{Record}
use Rattle.hal_base.specs.declared.shape.Shape.{Shape}
use Rattle.hal_base.specs.declared.shape.Source.{Source}
use Rattle.hal_base.specs.declared.shape.Step.{Step}
use Rattle.hal_base.specs.declared.value.Value.{Value}
use Rattle.hal_base.specs.Meaning.{KeyLaw, Meaning, RoundLaw}
use Rattle.hal_base.specs.Shapes.{IsWellFormed, out_schema, source_at, state_schema, step_at, taken}
use Rattle.plain_job.specs.declared.ending.End.{End}
use Rattle.plain_job.specs.Chain.{last_out, numbers_from, out, part_out, parts_of, source_list, state_of, stream_of, table_at, together}
use Rattle.plain_job.specs.Distances.{EachIn, distance, distance_by, part_distances}
use Rattle.plain_job.specs.Ends.{IsChain}
use Rattle.plain_job.specs.Fit.{AreRecordsOf, FunctionsFit, TablesFit}

-- the numbers of the sources of a step
abbrev pub source_numbers : Step → List ℕ
source_numbers step = numbers_from 1 (length step.sources)

-- the chain by numbers: the parts of a step are its outputs, each of them is the part of the job over the step's streams, and the rounds begin with what the round before left
pub record IsByNumbers (m : Meaning) (shape : Shape) (tables : List (List Record)) : Type 0 where
  pub parts_are : (i j : ℕ) (step : Step) → step_at shape j ≡ Some step → parts_of m shape tables i j ≡ map (out m shape tables i j) (numbers_from 0 shape.parts)
  pub out_is : (i j p : ℕ) (step : Step) → step_at shape j ≡ Some step → p < shape.parts → out m shape tables i j p ≡ part_out m i j (map (stream_of m shape tables i j) (source_numbers step)) p
  pub last_is : (i : ℕ) → 1 ≤ i → last_out m shape tables i ≡ parts_of m shape tables i (length shape.steps)
  pub first_state : state_of m shape tables 1 ≡ table_at tables shape.start
  pub next_state : (i : ℕ) → 1 ≤ i → state_of m shape tables (i + 1) ≡ together (parts_of m shape tables i (length shape.steps))

-- each chain is by numbers
abbrev pub ChainsAreByNumbers : Type 0
ChainsAreByNumbers = (m : Meaning) (shape : Shape) (tables : List (List Record)) → IsByNumbers m shape tables

-- a chain leaves one list of texts, in one round and with one end
abbrev pub ChainsAreOne : Type 0
ChainsAreOne =
    (m : Meaning) (shape : Shape) (tables : List (List Record)) (texts texts' : List (List ℕ)) (rounds rounds' : ℕ) (end end' : End)
    → IsChain m shape tables texts rounds end → IsChain m shape tables texts' rounds' end'
    → (texts ≡ texts') × (rounds ≡ rounds') × (end ≡ end')

-- where a key stands in the part of its number alone, the sum of the parts' distances, up to the greatest number, is the distance of the whole
abbrev pub PartsSumToTheDistance : Type 0
PartsSumToTheDistance = (far : Value → List (List Value) → List (List Value) → ℕ) (part_of : Value → ℕ) (olds news : List (List Record)) → length olds ≡ length news → EachIn part_of 0 olds → EachIn part_of 0 news → min (sum (part_distances far olds news)) 9223372036854775807 ≡ distance_by far (together olds) (together news)

-- where the last step keeps its key, and its partition does not use the round, each key of its output stands in the key's part, in each round
abbrev pub KeysStandInTheirParts : Type 0
KeysStandInTheirParts =
    (m : Meaning) (shape : Shape) (tables : List (List Record)) → RoundLaw m → KeyLaw m
    → m.keeps_key (length shape.steps) ≡ true → m.partition_uses_round (length shape.steps) ≡ false
    → (i : ℕ) → 1 ≤ i → EachIn (m.partition 1 (length shape.steps)) 0 (last_out m shape tables i)

-- there the sum of the parts' distances, up to the greatest number, is the distance of two rounds
abbrev pub PartsMakeTheDistance : Type 0
PartsMakeTheDistance =
    (m : Meaning) (shape : Shape) (tables : List (List Record)) → RoundLaw m → KeyLaw m
    → m.keeps_key (length shape.steps) ≡ true → m.partition_uses_round (length shape.steps) ≡ false
    → (far : Value → List (List Value) → List (List Value) → ℕ) (i i' : ℕ) → 1 ≤ i → 1 ≤ i'
    → min (sum (part_distances far (last_out m shape tables i) (last_out m shape tables i'))) 9223372036854775807 ≡ distance_by far (together (last_out m shape tables i)) (together (last_out m shape tables i'))

-- where the functions fit, the distance that they tell of two outputs of the state's schema is that of the chain
abbrev pub FunctionsTellTheDistance : Type 0
FunctionsTellTheDistance =
    (m : Meaning) (shape : Shape) (schema : Schema) → FunctionsFit m shape → state_schema shape ≡ Some schema
    → (old new : List Record) → AreRecordsOf schema old → AreRecordsOf schema new → distance_by m.distance old new ≡ distance m shape old new

-- what the sources of a chain read, their streams and what its steps leave is of the schemas that the shape names
pub record IsOfItsSchemas (m : Meaning) (shape : Shape) (tables : List (List Record)) : Type 0 where
  pub lists : (i j s : ℕ) (source : Source) (schema : Schema) → 1 ≤ i → i ≤ shape.rounds → source_at shape j s ≡ Some source → taken shape j source.from ≡ Some schema → AreRecordsOf schema (source_list m shape tables i j s)
  pub streams : (i j s : ℕ) (source : Source) → 1 ≤ i → i ≤ shape.rounds → source_at shape j s ≡ Some source → AreRecordsOf source.stream (stream_of m shape tables i j s)
  pub outs : (i j : ℕ) (schema : Schema) → 1 ≤ i → i ≤ shape.rounds → out_schema shape j ≡ Some schema → AllByRecursion (AreRecordsOf schema) (parts_of m shape tables i j)
  pub states : (i : ℕ) (schema : Schema) → i ≤ shape.rounds → state_schema shape ≡ Some schema → AllByRecursion (AreRecordsOf schema) (last_out m shape tables i)

-- a chain of functions and tables that fit is of its schemas
abbrev pub ChainsAreOfTheirSchemas : Type 0
ChainsAreOfTheirSchemas = (m : Meaning) (shape : Shape) (tables : List (List Record)) → IsWellFormed shape → FunctionsFit m shape → TablesFit shape tables → IsOfItsSchemas m shape tables
