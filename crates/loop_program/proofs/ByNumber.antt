-- What typed steps keep, by their numbers.
use Rattle.std.proofs.Common.{ℕ, zero, suc, ◌≡◌, true, false, List, [], ◌∷◌, length, Option, Some, refl, sym, ◌∙◌, ap, subst, arith, slice_get, ◌≤◌}
use Rattle.std.specs.List.{AllByRecursion}
use Rattle.std.specs.Option.{option_and_then, option_map, option_map_or}
use Rattle.std.proofs.lemmas.Option.{none-some, option_and_then_some}
use Rattle.function_language.specs.declared.tree.Function.{Function as Written}
use Rattle.hal_base.specs.declared.fields.Schema.{Schema}
use Rattle.hal_base.specs.declared.shape.Origin.{Origin}
use Rattle.hal_base.specs.declared.shape.Origin.TheVariants.{State, Prev, Table}
use Rattle.hal_base.specs.declared.shape.Shape.{Shape}
use Rattle.hal_base.specs.declared.shape.Source.{Source}
use Rattle.hal_base.specs.declared.shape.Step.{Step}
use Rattle.hal_base.specs.Shapes.{key_kind, nth, out_schema, source_at, state_schema, step_at, taken}
use Rattle.type_checker.specs.Uses.{map_at, partition_at, reduce_at}
use Rattle.type_checker.specs.declared.uses.Use.{Use}
use Rattle.type_checker.specs.declared.uses.UseStep.{UseStep}
use Rattle.type_checker.specs.declared.uses.Uses.{Uses}
use Rattle.loop_program.specs.Schemas.{last_schema, map_makes, partition_takes, reduce_makes, schema_read}
use Rattle.loop_program.proofs.KeptSchemas.{SourceIsTyped, SourcesAreTyped, StepIsTyped, StepsAreTyped}

some_same : {A : Type 0} {a b : A} → Some a ≡ Some b → a ≡ b
some_same e = cc

-- what the step before leaves; before the first step, what stood there
abbrev before_at : Schema → List Step → ℕ → Schema
before_at before steps zero = before
before_at before [] (suc n) = before
before_at before (step ∷ steps) (suc n) = before_at step.out steps n

before_made : (before : Schema) (steps : List Step) (n : ℕ) (schema : Schema) → option_map (λ (step : Step). step.out) (slice_get steps n) ≡ Some schema → before_at before steps (suc n) ≡ schema
before_made before [] n schema e = absurd (none-some schema e)
before_made before (step ∷ steps) zero schema e = some_same e
before_made before (step ∷ steps) (suc n) schema e = before_made step.out steps n schema e

last_made : (before : Schema) (step : Step) (steps : List Step) → option_map (λ (step : Step). step.out) (slice_get (step ∷ steps) (length steps)) ≡ Some (last_schema before (step ∷ steps))
last_made before step [] = refl
last_made before step (next ∷ steps) = last_made step.out next steps

module _ (functions : List Written) where
  source_typed_at : (takes : Origin → Option Schema) (maps : List Use) (sources : List Source) (n : ℕ) (source : Source) → SourcesAreTyped functions takes maps sources → slice_get sources n ≡ Some source → (map : Use) × (slice_get maps n ≡ Some map) × SourceIsTyped functions takes map source
  source_typed_at takes [] [] n source all e = absurd (none-some source e)
  source_typed_at takes [] (other ∷ sources) n source all e = absurd all
  source_typed_at takes (map ∷ maps) [] n source all e = absurd all
  source_typed_at takes (map ∷ maps) (other ∷ sources) zero source all e = (map, refl, subst (SourceIsTyped functions takes map) (some_same e) all.0)
  source_typed_at takes (map ∷ maps) (other ∷ sources) (suc n) source all e = source_typed_at takes maps sources n source all.1 e

  step_typed_at : (tables : List Schema) (state before : Schema) (uses : List UseStep) (steps : List Step) (n : ℕ) (step : Step) → StepsAreTyped functions tables state before uses steps → slice_get steps n ≡ Some step → (used : UseStep) × (slice_get uses n ≡ Some used) × StepIsTyped functions (schema_read tables state (before_at before steps n)) used step
  step_typed_at tables state before [] [] n step all e = absurd (none-some step e)
  step_typed_at tables state before [] (other ∷ steps) n step all e = absurd all
  step_typed_at tables state before (used ∷ uses) [] n step all e = absurd all
  step_typed_at tables state before (used ∷ uses) (other ∷ steps) zero step all e = (used, refl, subst (StepIsTyped functions (schema_read tables state before) used) (some_same e) all.0)
  step_typed_at tables state before (used ∷ uses) (other ∷ steps) (suc n) step all e = step_typed_at tables state other.out uses steps n step all.1 e

-- typed steps of a shape whose start table is of this schema
module _ (functions : List Written) (uses : Uses) (shape : Shape) (state : Schema) (start : slice_get shape.tables shape.start ≡ Some state) (typed : StepsAreTyped functions shape.tables state state uses.steps shape.steps) where
  -- what stands before step j
  abbrev before : ℕ → Schema
  before zero = state
  before (suc n) = before_at state shape.steps n

  abbrev takes : ℕ → Origin → Option Schema
  takes j = schema_read shape.tables state (before j)

  takes_so : (j : ℕ) (from : Origin) (schema : Schema) → taken shape j from ≡ Some schema → takes j from ≡ Some schema
  takes_so zero State schema e = sym start ∙ e
  takes_so (suc n) State schema e = sym start ∙ e
  takes_so zero Prev schema e = absurd (none-some schema e)
  takes_so (suc zero) Prev schema e = absurd (none-some schema e)
  takes_so (suc (suc n)) Prev schema e = ap Some (before_made state shape.steps n schema e)
  takes_so zero (Table t only) schema e = e
  takes_so (suc n) (Table t only) schema e = e

  step_of : (j : ℕ) (step : Step) → step_at shape j ≡ Some step → (used : UseStep) × (nth uses.steps j ≡ Some used) × StepIsTyped functions (takes j) used step
  step_of zero step e = absurd (none-some step e)
  step_of (suc n) step e = step_typed_at functions shape.tables state state uses.steps shape.steps n step typed e

  source_in : (takes : Origin → Option Schema) (maps : List Use) (sources : List Source) (s : ℕ) (source : Source) → SourcesAreTyped functions takes maps sources → nth sources s ≡ Some source → (map : Use) × (nth maps s ≡ Some map) × SourceIsTyped functions takes map source
  source_in takes maps sources zero source all e = absurd (none-some source e)
  source_in takes maps sources (suc n) source all e = source_typed_at functions takes maps sources n source all e

  source_of : (j s : ℕ) (source : Source) → source_at shape j s ≡ Some source → (map : Use) × (map_at uses j s ≡ Some map) × SourceIsTyped functions (takes j) map source
  source_of j s source e =
      option_and_then_some (λ (step : Step). nth step.sources s) (step_at shape j) source e (λ step f g.
      let used = step_of j step f in
      let map = source_in (takes j) used.0.maps step.sources s source used.2.sources g in
      (map.0, ap (λ (o : Option UseStep). option_and_then (λ (step : UseStep). nth step.maps s) o) used.1 ∙ map.1, map.2))

  pub maps_fit : (j s : ℕ) (source : Source) (schema : Schema) → source_at shape j s ≡ Some source → taken shape j source.from ≡ Some schema → option_and_then (λ (map : Use). map_makes functions map schema) (map_at uses j s) ≡ Some source.stream
  maps_fit j s source schema e t =
      let found = source_of j s source e in
      let same : found.2.schema ≡ schema = some_same (sym found.2.there ∙ takes_so j source.from schema t) in
      ap (option_and_then (λ (map : Use). map_makes functions map schema)) found.1 ∙ subst (λ (it : Schema). map_makes functions found.0 it ≡ Some source.stream) same found.2.makes

  pub not_kept : (j s : ℕ) (source : Source) → source_at shape j s ≡ Some source → source.reducer_input ≡ false
  not_kept j s source e = (source_of j s source e).2.not_kept

  pub keys_fit : (j : ℕ) (step : Step) → step_at shape j ≡ Some step → AllByRecursion (λ (source : Source). source.stream.key ≡ key_kind step.sources) step.sources
  keys_fit j step e = (step_of j step e).2.keys

  pub reduces_fit : (j : ℕ) (step : Step) → step_at shape j ≡ Some step → option_and_then (λ (reduce : Use). reduce_makes functions reduce step.sources) (reduce_at uses j) ≡ Some step.out
  reduces_fit j step e =
      let used = step_of j step e in
      ap (λ (o : Option UseStep). option_and_then (λ (reduce : Use). reduce_makes functions reduce step.sources) (option_map (λ (step : UseStep). step.reduce) o)) used.1 ∙ used.2.reduce

  pub partitions_fit : (j : ℕ) (step : Step) → step_at shape j ≡ Some step → option_map_or (λ (partition : Use). partition_takes functions partition (key_kind step.sources)) (partition_at uses j) false ≡ true
  partitions_fit j step e =
      let used = step_of j step e in
      ap (λ (o : Option UseStep). option_map_or (λ (partition : Use). partition_takes functions partition (key_kind step.sources)) (option_map (λ (step : UseStep). step.partition) o) false) used.1 ∙ used.2.partition

-- what the last of some steps leaves is the next state
pub last_fits : (shape : Shape) (state : Schema) (steps : List Step) → slice_get shape.tables shape.start ≡ Some state → shape.steps ≡ steps → 1 ≤ length steps → last_schema state steps ≡ state → out_schema shape (length shape.steps) ≡ state_schema shape
last_fits shape state [] start same some last = absurd (omega (arith, some))
last_fits shape state (step ∷ steps) start same some last =
    ap (λ (all : List Step). option_map (λ (step : Step). step.out) (nth all (length all))) same ∙ last_made state step steps ∙ ap Some last ∙ sym start
