-- What a task is given to compute from: records of the schemas that the shape names.
use Rattle.std.specs.Prelude.{◌≡◌, ℕ, List, [], ◌∷◌, Some}
use Rattle.std.specs.List.{AllByRecursion}
use Rattle.hal_base.specs.declared.fields.Schema.{Schema}
use Rattle.hal_base.specs.declared.record.Record.{Record}
use Rattle.hal_base.specs.declared.shape.Shape.{Shape}
use Rattle.hal_base.specs.declared.shape.Source.{Source}
use Rattle.hal_base.specs.declared.shape.Step.{Step}
use Rattle.hal_base.specs.Order.{record_cmp}
use Rattle.hal_base.specs.Shapes.{source_at, step_at, taken}
use Rattle.hal_base.specs.Sorted.{Ascending}
use Rattle.plain_job.specs.Fit.{AreRecordsOf}

-- the shape has this source, and the records are of the schema that it takes
pub record AreTaken (shape : Shape) (j s : ℕ) (rows : List Record) : Type 0 where
  pub source : Source
  pub schema : Schema
  pub is_there : source_at shape j s ≡ Some source
  pub takes : taken shape j source.from ≡ Some schema
  pub each : AreRecordsOf schema rows

-- for each source there are sections, of records of its stream
abbrev pub HaveSections : List Source → List (List (List Record)) → Type 0
HaveSections [] [] = Unit {0}
HaveSections [] (sections ∷ inputs) = ⊥
HaveSections (source ∷ sources) [] = ⊥
HaveSections (source ∷ sources) (sections ∷ inputs) = AllByRecursion (AreRecordsOf source.stream) sections × HaveSections sources inputs

-- the shape has this step, and for each of its sources there are sections, of records of its stream and each in order
pub record AreSections (shape : Shape) (j : ℕ) (inputs : List (List (List Record))) : Type 0 where
  pub step : Step
  pub is_there : step_at shape j ≡ Some step
  pub each : HaveSections step.sources inputs
  pub in_order : AllByRecursion (AllByRecursion (Ascending record_cmp)) inputs
