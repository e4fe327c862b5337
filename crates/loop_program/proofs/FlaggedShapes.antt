-- A shape with other flags keeps what is said of its steps, its sources and its schemas.
use Rattle.std.proofs.Common.{◌≡◌, ℕ, zero, suc, ◌+◌, ◌≤◌, Bool, List, [], ◌∷◌, Some, refl, sym, ap, ◌∙◌, subst, length, slice_get, arith}
use Rattle.std.specs.List.{AllByRecursion}
use Rattle.std.specs.Option.{option_and_then, option_map}
use Rattle.std.proofs.lemmas.Option.{none-some, option_and_then_some}
use Rattle.hal_base.specs.declared.fields.Schema.{Schema}
use Rattle.hal_base.specs.declared.shape.Origin.{Origin}
use Rattle.hal_base.specs.declared.shape.Origin.TheVariants.{State, Prev, Table}
use Rattle.hal_base.specs.declared.shape.Shape.{Shape}
use Rattle.hal_base.specs.declared.shape.Source.{Source}
use Rattle.hal_base.specs.declared.shape.Step.{Step}
use Rattle.hal_base.specs.Shapes.{HasFewSources, IsTable, IsWellFormed, ReadFrom, StepsReadFrom, key_kind, nth, out_schema, source_at, step_at, taken}
use Rattle.loop_program.specs.Flags.{SourceFlags, flagged, flagged_source, flagged_sources, flagged_step, flagged_steps}

some_same : {A : Type 0} {a b : A} → Some a ≡ Some b → a ≡ b
some_same e = cc

first_number : (from j : ℕ) → j ≡ 0 + from → from ≡ j
first_number from j e = omega arith

module _ (flags : SourceFlags) where
  -- ---- lists

  pub many_sources : (j s : ℕ) (sources : List Source) → length (flagged_sources flags j s sources) ≡ length sources
  many_sources j s [] = refl
  many_sources j s (source ∷ sources) = ap suc (many_sources j (suc s) sources)

  pub many_steps : (j : ℕ) (steps : List Step) → length (flagged_steps flags j steps) ≡ length steps
  many_steps j [] = refl
  many_steps j (step ∷ steps) = ap suc (many_steps (suc j) steps)

  -- the kind of the keys of their streams
  pub same_key : (j s : ℕ) (sources : List Source) → key_kind (flagged_sources flags j s sources) ≡ key_kind sources
  same_key j s [] = refl
  same_key j s (source ∷ sources) = refl

  -- what holds of all sources, whatever their flags, holds with these
  pub all_sources : (P : Source → Type 0) → ((j s : ℕ) (source : Source) → P source → P (flagged_source flags j s source)) → (j s : ℕ) (sources : List Source) → AllByRecursion P sources → AllByRecursion P (flagged_sources flags j s sources)
  all_sources P h j s [] all = tt
  all_sources P h j s (source ∷ sources) all = (h j s source all.0, all_sources P h j (suc s) sources all.1)

  few_sources : (j : ℕ) (steps : List Step) → AllByRecursion HasFewSources steps → AllByRecursion HasFewSources (flagged_steps flags j steps)
  few_sources j [] all = tt
  few_sources j (step ∷ steps) all = (subst (λ n. n ≤ 8) (sym (many_sources j 1 step.sources)) all.0, few_sources (suc j) steps all.1)

  -- ---- what steps read

  read_from : (tables : List Schema) (first : Origin) (j : ℕ) (sources : List Source) → ReadFrom tables first sources → ReadFrom tables first (flagged_sources flags j 1 sources)
  read_from tables first j [] r = r
  read_from tables first j (source ∷ sources) r = (r.0, all_sources (λ (other : Source). IsTable tables other.from) (λ j s source t. t) j 2 sources r.1)

  steps_read : (tables : List Schema) (first : Origin) (j : ℕ) (steps : List Step) → StepsReadFrom tables first steps → StepsReadFrom tables first (flagged_steps flags j steps)
  steps_read tables first j [] r = tt
  steps_read tables first j (step ∷ steps) r = (read_from tables first j step.sources r.0, steps_read tables Prev (suc j) steps r.1)

  -- ---- by number

  -- a step is one of the shape's, with the flags of its number
  step_behind : (from n : ℕ) (steps : List Step) (j : ℕ) (step : Step) → j ≡ n + from → slice_get (flagged_steps flags from steps) n ≡ Some step → (old : Step) × (slice_get steps n ≡ Some old) × (step ≡ flagged_step flags j old)
  step_behind from n [] j step e at = absurd (none-some step at)
  step_behind from zero (old ∷ steps) j step e at = (old, refl, sym (some_same at) ∙ ap (λ k. flagged_step flags k old) (first_number from j e))
  step_behind from (suc n) (other ∷ steps) j step e at = step_behind (suc from) n steps j step (omega arith) at

  source_behind : (j from n : ℕ) (sources : List Source) (s : ℕ) (source : Source) → s ≡ n + from → slice_get (flagged_sources flags j from sources) n ≡ Some source → (old : Source) × (slice_get sources n ≡ Some old) × (source ≡ flagged_source flags j s old)
  source_behind j from n [] s source e at = absurd (none-some source at)
  source_behind j from zero (old ∷ sources) s source e at = (old, refl, sym (some_same at) ∙ ap (λ k. flagged_source flags j k old) (first_number from s e))
  source_behind j from (suc n) (other ∷ sources) s source e at = source_behind j (suc from) n sources s source (omega arith) at

  source_in : (j : ℕ) (sources : List Source) (s : ℕ) (source : Source) → nth (flagged_sources flags j 1 sources) s ≡ Some source → (old : Source) × (nth sources s ≡ Some old) × (source ≡ flagged_source flags j s old)
  source_in j sources zero source at = absurd (none-some source at)
  source_in j sources (suc n) source at = source_behind j 1 n sources (suc n) source (omega arith) at

  -- ---- schemas

  outs_by_place : (j n : ℕ) (steps : List Step) → option_map (λ (step : Step). step.out) (slice_get (flagged_steps flags j steps) n) ≡ option_map (λ (step : Step). step.out) (slice_get steps n)
  outs_by_place j n [] = refl
  outs_by_place j zero (step ∷ steps) = refl
  outs_by_place j (suc n) (step ∷ steps) = outs_by_place (suc j) n steps

  module _ (output : Bool) (shape : Shape) where
    abbrev made : Shape
    made = flagged flags output shape

    pub flagged_step_at : (j : ℕ) (step : Step) → step_at made j ≡ Some step → (old : Step) × (step_at shape j ≡ Some old) × (step ≡ flagged_step flags j old)
    flagged_step_at zero step at = absurd (none-some step at)
    flagged_step_at (suc n) step at = step_behind 1 n shape.steps (suc n) step (omega arith) at

    pub flagged_source_at : (j s : ℕ) (source : Source) → source_at made j s ≡ Some source → (old : Source) × (source_at shape j s ≡ Some old) × (source ≡ flagged_source flags j s old)
    flagged_source_at j s source at =
        option_and_then_some (λ (step : Step). nth step.sources s) (step_at made j) source at (λ step there in_it.
        let old = flagged_step_at j step there in
        let found = source_in j old.0.sources s source (subst (λ (it : Step). nth it.sources s ≡ Some source) old.2 in_it) in
        (found.0, ap (option_and_then (λ (step : Step). nth step.sources s)) old.1 ∙ found.1, found.2))

    pub same_out : (j : ℕ) → out_schema made j ≡ out_schema shape j
    same_out zero = refl
    same_out (suc n) = outs_by_place 1 n shape.steps

    pub same_taken : (j : ℕ) (from : Origin) → taken made j from ≡ taken shape j from
    same_taken zero State = refl
    same_taken (suc k) State = refl
    same_taken zero Prev = refl
    same_taken (suc k) Prev = same_out k
    same_taken zero (Table t only) = refl
    same_taken (suc k) (Table t only) = refl

    -- ---- what the shape keeps

    pub still_well_formed : IsWellFormed shape → IsWellFormed made
    still_well_formed well = record {
      parts = well.parts;
      rounds = well.rounds;
      tables = well.tables;
      start = well.start;
      few_steps = subst (λ n. (1 ≤ n) × (n ≤ 8)) (sym (many_steps 1 shape.steps)) well.few_steps;
      few_sources = few_sources 1 shape.steps well.few_sources;
      steps = steps_read shape.tables State 1 shape.steps well.steps;
    }
