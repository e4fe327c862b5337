-- A shape by its steps and sources, what each takes and leaves, what a shape keeps, and which sources may be kept over the rounds.
use Rattle.std.specs.Prelude.{◌≡◌, ℕ, zero, suc, ◌<◌, ◌≤◌, Bool, false, List, [], ◌∷◌, Option, None, Some, length, slice_get}
use Rattle.std.specs.List.{AllByRecursion}
use Rattle.std.specs.Option.{option_and_then, option_map}
use Rattle.hal_base.specs.declared.fields.Schema.{Schema}
use Rattle.hal_base.specs.declared.shape.Origin.{Origin}
use Rattle.hal_base.specs.declared.shape.Origin.TheVariants.{State, Prev, Table}
use Rattle.hal_base.specs.declared.shape.Source.{Source}
use Rattle.hal_base.specs.declared.shape.Step.{Step}
use Rattle.hal_base.specs.declared.shape.Shape.{Shape}
use Rattle.hal_base.specs.declared.value.Kind.{Kind}
use Rattle.hal_base.specs.declared.value.Kind.TheVariants as kind

-- the item of this number, where they count from 1
abbrev pub nth : {A : Type 0} → List A → ℕ → Option A
nth items zero = None
nth items (suc n) = slice_get items n

-- step j
abbrev pub step_at : Shape → ℕ → Option Step
step_at shape j = nth shape.steps j

-- source s of step j
abbrev pub source_at : Shape → ℕ → ℕ → Option Source
source_at shape j s = option_and_then (λ (step : Step). nth step.sources s) (step_at shape j)

-- the kind of the keys of the streams of these sources
abbrev pub key_kind : List Source → Kind
key_kind [] = kind.Int
key_kind (source ∷ sources) = source.stream.key

-- the schema of the state, which is that of the start table
abbrev pub state_schema : Shape → Option Schema
state_schema shape = slice_get shape.tables shape.start

-- the schema of what step j leaves
abbrev pub out_schema : Shape → ℕ → Option Schema
out_schema shape j = option_map (λ (step : Step). step.out) (step_at shape j)

-- the schema of the records that a source of step j takes: of the state, of the output before, or of a table
abbrev pub taken : Shape → ℕ → Origin → Option Schema
taken shape j State = state_schema shape
taken shape zero Prev = None
taken shape (suc k) Prev = out_schema shape k
taken shape j (Table t only) = slice_get shape.tables t

-- a table that there is, in every round or in one that a program may have
abbrev pub IsTable : List Schema → Origin → Type 0
IsTable tables State = ⊥
IsTable tables Prev = ⊥
IsTable tables (Table t None) = t < length tables
IsTable tables (Table t (Some round)) = (t < length tables) × (1 ≤ round) × (round ≤ 10000)

-- the first source is this, and each other a table
abbrev pub ReadFrom : List Schema → Origin → List Source → Type 0
ReadFrom tables first [] = ⊥
ReadFrom tables first (source ∷ sources) = (source.from ≡ first) × AllByRecursion (λ (other : Source). IsTable tables other.from) sources

-- the first source is this of the first step, and the output before of each other
abbrev pub StepsReadFrom : List Schema → Origin → List Step → Type 0
StepsReadFrom tables first [] = Unit {0}
StepsReadFrom tables first (step ∷ steps) = ReadFrom tables first step.sources × StepsReadFrom tables Prev steps

-- a step has at most eight sources
abbrev pub HasFewSources : Step → Type 0
HasFewSources step = length step.sources ≤ 8

-- the numbers of the shape are within their limits, the first step begins with the state and each other with the output before, and each further source is a table
pub record IsWellFormed (shape : Shape) : Type 0 where
  pub parts : (1 ≤ shape.parts) × (shape.parts ≤ 64)
  pub rounds : (1 ≤ shape.rounds) × (shape.rounds ≤ 10000)
  pub tables : length shape.tables ≤ 16
  pub start : shape.start < length shape.tables
  pub few_steps : (1 ≤ length shape.steps) × (length shape.steps ≤ 8)
  pub few_sources : AllByRecursion HasFewSources shape.steps
  pub steps : StepsReadFrom shape.tables State shape.steps

-- a table that is read in every round
abbrev pub IsFixed : Origin → Type 0
IsFixed State = ⊥
IsFixed Prev = ⊥
IsFixed (Table t None) = Unit {0}
IsFixed (Table t (Some round)) = ⊥

-- what a source makes is the same in all rounds: it reads a table in each, by a map and into parts that do not use the round
pub record MayBeKept (from : Origin) (map_uses_round partition_uses_round : Bool) : Type 0 where
  pub fixed : IsFixed from
  pub map : map_uses_round ≡ false
  pub partition : partition_uses_round ≡ false
