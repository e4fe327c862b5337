-- The shape of a test, but for when it stops.
use Rattle.std.specs.Prelude.{◌≡◌, ◌≤◌, List, length}
use Rattle.std.specs.List.{AllByRecursion}
use Rattle.hal_base.specs.declared.fields.Schema.{Schema}
use Rattle.hal_base.specs.declared.shape.Origin.TheVariants.{State}
use Rattle.hal_base.specs.declared.shape.Step.{Step}
use Rattle.hal_base.specs.Shapes.{HasFewSources, ReadFrom, StepsReadFrom}

-- a step over the state and one of two tables
abbrev pub IsStepOverTwo : Step → Type 0
IsStepOverTwo step = HasFewSources step × ((tables : List Schema) → length tables ≡ 2 → ReadFrom tables State step.sources)

-- steps over two tables
pub record AreStepsOverTwo (steps : List Step) : Type 0 where
  pub few : (1 ≤ length steps) × (length steps ≤ 8)
  pub few_sources : AllByRecursion HasFewSources steps
  pub reads : (tables : List Schema) → length tables ≡ 2 → StepsReadFrom tables State steps
