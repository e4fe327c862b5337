-- A shape in which caches are cleared is as good as it was: functions fit it, and it has the same chain.
use Rattle.std.proofs.Common.{◌≡◌, ℕ, suc, ◌≤◌, ◌<◌, Bool, true, false, List, [], ◌∷◌, Some, refl, sym, ap, subst, ◌∙◌, length, map}
use Rattle.std.specs.List.{AllByRecursion}
use Rattle.hal_base.specs.declared.fields.Schema.{Schema}
use Rattle.hal_base.specs.declared.record.Record.{Record}
use Rattle.hal_base.specs.declared.shape.Shape.{Shape}
use Rattle.hal_base.specs.declared.shape.Source.{Source}
use Rattle.hal_base.specs.declared.shape.Step.{Step}
use Rattle.hal_base.specs.declared.value.Value.{Value}
use Rattle.hal_base.specs.Meaning.{Meaning}
use Rattle.hal_base.specs.Shapes.{MayBeKept, key_kind, out_schema, source_at, step_at, taken}
use Rattle.hal_base.specs.Values.{IsRecordOf}
use Rattle.loop_program.specs.Flags.{SourceFlags, flagged, flagged_sources, flagged_step, flagged_steps}
use Rattle.loop_program.proofs.FlaggedShapes.{all_sources, flagged_source_at, flagged_step_at, many_steps, same_key, same_out, same_taken}
use Rattle.plain_job.specs.Fit.{AreRecordsOf, FunctionsFit, HaveGroups, IsKeyOf}
use Rattle.run_laws.specs.WithoutLoss.{HasNoCaches}
use Rattle.haloop_run.specs.Clearing.{built, cleared}
use Rattle.haloop_run.specs.steps.Clearing.{cleared_source, cleared_step}

-- ---- functions fit a shape with fewer caches

module _ (flags : SourceFlags) where
  groups_of : (j s : ℕ) (sources : List Source) (groups : List (List (List Value))) → HaveGroups (flagged_sources flags j s sources) groups → HaveGroups sources groups
  groups_of j s [] [] h = tt
  groups_of j s [] (group ∷ groups) h = absurd h
  groups_of j s (source ∷ sources) [] h = absurd h
  groups_of j s (source ∷ sources) (group ∷ groups) h = (h.0, groups_of j (suc s) sources groups h.1)

  module _ (m : Meaning) (output : Bool) (shape : Shape) (fewer : (j s : ℕ) (source : Source) → flags.reducer_input j s source ≡ true → source.reducer_input ≡ true) (no_more : output ≡ true → shape.reducer_output ≡ true) (fit : FunctionsFit m shape) where
    abbrev made : Shape
    made = flagged flags output shape

    maps : (i j s : ℕ) (source : Source) (schema : Schema) (row : Record) → i ≤ shape.rounds → source_at made j s ≡ Some source → taken made j source.from ≡ Some schema → IsRecordOf schema row → AreRecordsOf source.stream (m.map i j s row)
    maps i j s source schema row l at reads is =
        let old = flagged_source_at flags output shape j s source at in
        let from = subst (λ (it : Source). taken made j it.from ≡ Some schema) old.2 reads in
        subst (λ (it : Source). AreRecordsOf it.stream (m.map i j s row)) (sym old.2)
        (fit.maps i j s old.0 schema row l old.1 (sym (same_taken flags output shape j old.0.from) ∙ from) is)

    keys : (j : ℕ) (step : Step) → step_at made j ≡ Some step → AllByRecursion (λ (source : Source). source.stream.key ≡ key_kind step.sources) step.sources
    keys j step at =
        let old = flagged_step_at flags output shape j step at in
        subst (λ (it : Step). AllByRecursion (λ (source : Source). source.stream.key ≡ key_kind it.sources) it.sources) (sym old.2)
        (subst (λ kind. AllByRecursion (λ (source : Source). source.stream.key ≡ kind) (flagged_sources flags j 1 old.0.sources)) (sym (same_key flags j 1 old.0.sources))
        (all_sources flags (λ (source : Source). source.stream.key ≡ key_kind old.0.sources) (λ j s source e. e) j 1 old.0.sources (fit.keys j old.0 old.1)))

    reduces : (i j : ℕ) (step : Step) (key : Value) (groups : List (List (List Value))) → i ≤ shape.rounds → step_at made j ≡ Some step → IsKeyOf (key_kind step.sources) key → HaveGroups step.sources groups → AreRecordsOf step.out (m.reduce i j key groups)
    reduces i j step key groups l at is have =
        let old = flagged_step_at flags output shape j step at in
        let is' = subst (λ kind. IsKeyOf kind key) (same_key flags j 1 old.0.sources) (subst (λ (it : Step). IsKeyOf (key_kind it.sources) key) old.2 is) in
        let have' = groups_of j 1 old.0.sources groups (subst (λ (it : Step). HaveGroups it.sources groups) old.2 have) in
        subst (λ (it : Step). AreRecordsOf it.out (m.reduce i j key groups)) (sym old.2) (fit.reduces i j old.0 key groups l old.1 is' have')

    partitions : (i j : ℕ) (step : Step) (key : Value) → i ≤ shape.rounds → step_at made j ≡ Some step → IsKeyOf (key_kind step.sources) key → m.partition i j key < shape.parts
    partitions i j step key l at is =
        let old = flagged_step_at flags output shape j step at in
        fit.partitions i j old.0 key l old.1 (subst (λ kind. IsKeyOf kind key) (same_key flags j 1 old.0.sources) (subst (λ (it : Step). IsKeyOf (key_kind it.sources) key) old.2 is))

    inputs : (j s : ℕ) (source : Source) → source_at made j s ≡ Some source → source.reducer_input ≡ true → MayBeKept source.from (m.map_uses_round j s) (m.partition_uses_round j)
    inputs j s source at has =
        let old = flagged_source_at flags output shape j s source at in
        let had = fewer j s old.0 (subst (λ (it : Source). it.reducer_input ≡ true) old.2 has) in
        subst (λ (it : Source). MayBeKept it.from (m.map_uses_round j s) (m.partition_uses_round j)) (sym old.2) (fit.reducer_input j s old.0 old.1 had)

    outputs : output ≡ true → (m.keeps_key (length made.steps) ≡ true) × (m.partition_uses_round (length made.steps) ≡ false)
    outputs has = subst (λ n. (m.keeps_key n ≡ true) × (m.partition_uses_round n ≡ false)) (sym (many_steps flags 1 shape.steps)) (fit.reducer_output (no_more has))

    pub fit_with_fewer : FunctionsFit m made
    fit_with_fewer = record {
      maps = maps;
      keys = keys;
      reduces = reduces;
      partitions = partitions;
      last = same_out flags output shape (length made.steps) ∙ ap (out_schema shape) (many_steps flags 1 shape.steps) ∙ fit.last;
      reducer_input = inputs;
      reducer_output = outputs;
      exact = fit.exact;
    }

-- ---- a cleared shape

not_both : false ≡ true → ⊥
not_both e = cc

-- functions that fit a shape fit it where it is cleared
pub fit_cleared : (m : Meaning) (shape : Shape) → FunctionsFit m shape → FunctionsFit m (cleared shape)
fit_cleared m shape fit = fit_with_fewer built m false shape (λ j s source e. absurd (not_both e)) (λ e. absurd (not_both e)) fit

-- it has no caches
pub no_caches : (shape : Shape) → HasNoCaches (cleared shape)
no_caches shape = record {
  sources = λ j s source at.
      let old = flagged_source_at built false shape j s source at in
      subst (λ (it : Source). (it.reducer_input ≡ false) × (it.mapper_input ≡ false)) (sym old.2) (refl, refl);
  output = refl;
}

-- ---- one after another

each_source : (j s : ℕ) (sources : List Source) → map cleared_source sources ≡ flagged_sources built j s sources
each_source j s [] = refl
each_source j s (source ∷ sources) = ap (λ others. cleared_source source ∷ others) (each_source j (suc s) sources)

-- a step with these sources
abbrev step_with : Step → List Source → Step
step_with step sources = record { sources = sources; out = step.out }

-- steps that are cleared one after another are those of the cleared shape
each_step : (j : ℕ) (steps : List Step) → map cleared_step steps ≡ flagged_steps built j steps
each_step j [] = refl
each_step j (step ∷ steps) = ap (λ sources. step_with step sources ∷ map cleared_step steps) (each_source j 1 step.sources) ∙ ap (λ others. flagged_step built j step ∷ others) (each_step (suc j) steps)

-- a shape with these steps, without the reducer output cache
abbrev with_steps : Shape → List Step → Shape
with_steps shape steps = record {
  parts = shape.parts;
  rounds = shape.rounds;
  exact = shape.exact;
  threshold = shape.threshold;
  start = shape.start;
  tables = shape.tables;
  blocks = shape.blocks;
  steps = steps;
  reducer_output = false;
}

-- with them it is cleared
pub all_cleared : (shape : Shape) (steps : List Step) → steps ≡ map cleared_step shape.steps → with_steps shape steps ≡ cleared shape
all_cleared shape steps e = ap (with_steps shape) (e ∙ each_step 1 shape.steps)
