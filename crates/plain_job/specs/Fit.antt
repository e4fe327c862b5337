-- When functions and tables fit a shape.
use Rattle.std.specs.Prelude.{◌≡◌, ℕ, ◌<◌, ◌≤◌, true, false, List, [], ◌∷◌, Some, length, map}
use Rattle.std.specs.List.{AllByRecursion}
use Rattle.hal_base.specs.declared.fields.Schema.{Schema}
use Rattle.hal_base.specs.declared.record.Record.{Record}
use Rattle.hal_base.specs.declared.shape.Shape.{Shape}
use Rattle.hal_base.specs.declared.shape.Source.{Source}
use Rattle.hal_base.specs.declared.shape.Step.{Step}
use Rattle.hal_base.specs.declared.value.Kind.{Kind}
use Rattle.hal_base.specs.declared.value.Value.{Value}
use Rattle.hal_base.specs.Meaning.{Meaning}
use Rattle.hal_base.specs.Shapes.{MayBeKept, key_kind, out_schema, source_at, state_schema, step_at, taken}
use Rattle.hal_base.specs.Values.{IsRecordOf, IsValue, kind_of}
use Rattle.plain_job.specs.Distances.{differ}

-- a key of this kind
pub record IsKeyOf (kind : Kind) (key : Value) : Type 0 where
  pub good : IsValue key
  pub same_kind : kind_of key ≡ kind

-- fields of these kinds
pub record AreFieldsOf (kinds : List Kind) (fields : List Value) : Type 0 where
  pub good : AllByRecursion IsValue fields
  pub same_kinds : map kind_of fields ≡ kinds

-- records of this schema
abbrev pub AreRecordsOf : Schema → List Record → Type 0
AreRecordsOf schema rows = AllByRecursion (IsRecordOf schema) rows

-- a group of fields of these kinds
abbrev pub IsGroupOf : List Kind → List (List Value) → Type 0
IsGroupOf kinds group = AllByRecursion (AreFieldsOf kinds) group

-- there is a group for each source, of the fields of its stream
abbrev pub HaveGroups : List Source → List (List (List Value)) → Type 0
HaveGroups [] [] = Unit {0}
HaveGroups [] (group ∷ groups) = ⊥
HaveGroups (source ∷ sources) [] = ⊥
HaveGroups (source ∷ sources) (group ∷ groups) = IsGroupOf source.stream.fields group × HaveGroups sources groups

-- the functions of a program fit its shape: what they are given of the kinds that it names, in any of its rounds
pub record FunctionsFit (m : Meaning) (shape : Shape) : Type 0 where
  -- each map makes records of its stream's schema of those that it takes
  pub maps : (i j s : ℕ) (source : Source) (schema : Schema) (row : Record) → i ≤ shape.rounds → source_at shape j s ≡ Some source → taken shape j source.from ≡ Some schema → IsRecordOf schema row → AreRecordsOf source.stream (m.map i j s row)
  -- the streams of a step have keys of one kind
  pub keys : (j : ℕ) (step : Step) → step_at shape j ≡ Some step → AllByRecursion (λ (source : Source). source.stream.key ≡ key_kind step.sources) step.sources
  -- each reduce makes records of its step's output
  pub reduces : (i j : ℕ) (step : Step) (key : Value) (groups : List (List (List Value))) → i ≤ shape.rounds → step_at shape j ≡ Some step → IsKeyOf (key_kind step.sources) key → HaveGroups step.sources groups → AreRecordsOf step.out (m.reduce i j key groups)
  -- each key has one of the parts
  pub partitions : (i j : ℕ) (step : Step) (key : Value) → i ≤ shape.rounds → step_at shape j ≡ Some step → IsKeyOf (key_kind step.sources) key → m.partition i j key < shape.parts
  -- what the last step leaves is the next state
  pub last : out_schema shape (length shape.steps) ≡ state_schema shape
  -- a source with the reducer input cache may be kept over the rounds
  pub reducer_input : (j s : ℕ) (source : Source) → source_at shape j s ≡ Some source → source.reducer_input ≡ true → MayBeKept source.from (m.map_uses_round j s) (m.partition_uses_round j)
  -- with the reducer output cache each key stays in its part
  pub reducer_output : shape.reducer_output ≡ true → (m.keeps_key (length shape.steps) ≡ true) × (m.partition_uses_round (length shape.steps) ≡ false)
  -- a program that stops exactly stops where no group differs
  pub exact : shape.exact ≡ true → (shape.threshold ≡ 1) × ((schema : Schema) (key : Value) (old new : List (List Value)) → state_schema shape ≡ Some schema → IsKeyOf schema.key key → IsGroupOf schema.fields old → IsGroupOf schema.fields new → m.distance key old new ≡ differ old new)

-- there are as many tables as schemas, and each has records of its own
abbrev pub AreTablesOf : List Schema → List (List Record) → Type 0
AreTablesOf [] [] = Unit {0}
AreTablesOf [] (rows ∷ tables) = ⊥
AreTablesOf (schema ∷ schemas) [] = ⊥
AreTablesOf (schema ∷ schemas) (rows ∷ tables) = AreRecordsOf schema rows × AreTablesOf schemas tables

-- the tables fit the shape
abbrev pub TablesFit : Shape → List (List Record) → Type 0
TablesFit shape tables = AreTablesOf shape.tables tables
