-- What every program keeps that is accepted.
use Rattle.std.specs.Prelude.{◌≡◌, ℕ, true, false, List, Some, length}
use Rattle.std.specs.List.{AllByRecursion}
use Rattle.std.specs.Option.{option_and_then, option_map_or}
use Rattle.hal_base.specs.declared.fields.Schema.{Schema}
use Rattle.hal_base.specs.declared.shape.Shape.{Shape}
use Rattle.hal_base.specs.declared.shape.Source.{Source}
use Rattle.hal_base.specs.declared.shape.Step.{Step}
use Rattle.hal_base.specs.Shapes.{IsWellFormed, MayBeKept, key_kind, out_schema, source_at, state_schema, step_at, taken}
use Rattle.function_language.specs.declared.tree.Function.{Function as Written}
use Rattle.function_language.specs.Spelled.{CanBeSpelled}
use Rattle.type_checker.specs.Uses.{key_kept, map_at, partition_at, reduce_at, round_used}
use Rattle.type_checker.specs.Functions.{AreTyped}
use Rattle.type_checker.specs.declared.uses.Use.{Use}
use Rattle.type_checker.specs.declared.uses.Use.TheVariants.{Default}
use Rattle.type_checker.specs.declared.uses.Uses.{Uses}
use Rattle.loop_program.specs.Caches.{HasItsCaches}
use Rattle.loop_program.specs.Limits.{few, function_line, function_within}
use Rattle.loop_program.specs.Schemas.{distance_takes, map_makes, partition_takes, reduce_makes}
use Rattle.loop_program.specs.Whole.{Whole}
use Rattle.type_checker.specs.Checked.{fine}

-- the functions that the steps use, and the distance, fit the shape
pub record UsesFit (functions : List Written) (uses : Uses) (shape : Shape) : Type 0 where
  -- the map of each source makes its stream of the records that it takes
  pub maps : (j s : ℕ) (source : Source) (schema : Schema) → source_at shape j s ≡ Some source → taken shape j source.from ≡ Some schema → option_and_then (λ (map : Use). map_makes functions map schema) (map_at uses j s) ≡ Some source.stream
  -- the streams of a step have keys of one kind
  pub keys : (j : ℕ) (step : Step) → step_at shape j ≡ Some step → AllByRecursion (λ (source : Source). source.stream.key ≡ key_kind step.sources) step.sources
  -- the reduce of each step makes its output of them
  pub reduces : (j : ℕ) (step : Step) → step_at shape j ≡ Some step → option_and_then (λ (reduce : Use). reduce_makes functions reduce step.sources) (reduce_at uses j) ≡ Some step.out
  -- its partition takes their keys
  pub partitions : (j : ℕ) (step : Step) → step_at shape j ≡ Some step → option_map_or (λ (partition : Use). partition_takes functions partition (key_kind step.sources)) (partition_at uses j) false ≡ true
  -- what the last step leaves is the next state
  pub last : out_schema shape (length shape.steps) ≡ state_schema shape
  -- the distance takes the groups of the state
  pub distance : (schema : Schema) → state_schema shape ≡ Some schema → distance_takes functions uses.distance schema ≡ true
  -- a program that stops exactly stops where the default distance is below 1
  pub exact : shape.exact ≡ true → (shape.threshold ≡ 1) × (uses.distance ≡ Default)
  -- no other program has the default distance
  pub default : uses.distance ≡ Default → shape.exact ≡ true
  -- a source with the reducer input cache may be kept over the rounds
  pub reducer_input : (j s : ℕ) (source : Source) → source_at shape j s ≡ Some source → source.reducer_input ≡ true → MayBeKept source.from (round_used functions (map_at uses j s)) (round_used functions (partition_at uses j))
  -- with the reducer output cache each key stays in its part
  pub reducer_output : shape.reducer_output ≡ true → (key_kept functions (reduce_at uses (length shape.steps)) ≡ true) × (round_used functions (partition_at uses (length shape.steps)) ≡ false)

-- what an accepted program keeps
pub record KeepsRules (program : Whole) : Type 0 where
  -- its functions are typed
  pub typed : AreTyped program.functions
  -- their names, numbers and texts can be spelled
  pub spelled : CanBeSpelled program.functions
  -- they are within their limits
  pub within : few function_line function_within 64 program.functions ≡ fine
  -- its shape is well formed
  pub shape : IsWellFormed program.shape
  -- the functions that it uses fit its shape
  pub fits : UsesFit program.functions program.uses program.shape
  -- it has the caches that no word refuses
  pub caches : HasItsCaches program
  -- each table has a name
  pub names : length program.names ≡ length program.shape.tables
  -- and a file
  pub files : length program.files ≡ length program.shape.tables
