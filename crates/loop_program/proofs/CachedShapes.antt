-- A program that keeps the rules keeps them with the caches that it has.
use Rattle.std.proofs.Common.{◌≡◌, ℕ, suc, true, false, cond, ◌&&◌, List, [], ◌∷◌, Option, None, Some, refl, sym, ap, ◌∙◌, subst, length, slice_get}
use Rattle.std.specs.List.{AllByRecursion, list_all}
use Rattle.std.specs.Option.{option_and_then, option_map_or}
use Rattle.hal_base.specs.declared.fields.Schema.{Schema}
use Rattle.hal_base.specs.declared.shape.Shape.{Shape}
use Rattle.hal_base.specs.declared.shape.Source.{Source}
use Rattle.hal_base.specs.declared.shape.Step.{Step}
use Rattle.hal_base.specs.Shapes.{MayBeKept, key_kind, out_schema, source_at, state_schema, step_at, taken}
use Rattle.function_language.specs.declared.tree.Function.{Function as Written}
use Rattle.function_language.specs.declared.tree.Function.TheVariants as written
use Rattle.function_language.specs.declared.tree.Stream.{Stream}
use Rattle.type_checker.specs.declared.uses.Use.{Use}
use Rattle.type_checker.specs.declared.uses.Use.TheVariants as a_use
use Rattle.type_checker.specs.Uses.{key_kept, map_at, partition_at, reduce_at, round_used}
use Rattle.loop_program.specs.Caches.{HasItsCaches, cached, cached_shape, input_of, is_had, mapper_of, output_of, output_verdict, verdict_flags}
use Rattle.loop_program.specs.Flags.{SourceFlags, flagged_source, flagged_sources, flagged_step}
use Rattle.loop_program.specs.Rules.{UsesFit}
use Rattle.loop_program.specs.Schemas.{are_streams, hop_makes, is_stream, map_makes, one_schema, own_reduce_makes, partition_takes, reduce_makes, same_schema, schema_of}
use Rattle.loop_program.specs.Whole.{Whole}
use Rattle.loop_program.proofs.FlaggedShapes.{all_sources, flagged_source_at, flagged_step_at, many_steps, same_key, same_out, same_taken}
use Rattle.loop_program.proofs.Verdicts.{had_by, may_be_kept, stays_local}

module _ (flags : SourceFlags) where
  -- ---- what a reduce makes

  same_streams : (key : _) (streams : List Stream) (j s : ℕ) (sources : List Source) → are_streams key streams (flagged_sources flags j s sources) ≡ are_streams key streams sources
  same_streams key [] j s [] = refl
  same_streams key [] j s (source ∷ sources) = refl
  same_streams key (stream ∷ streams) j s [] = refl
  same_streams key (stream ∷ streams) j s (source ∷ sources) = ap (λ others. is_stream key stream source.stream && others) (same_streams key streams j (suc s) sources)

  of_one_schema : (schema : Schema) (j s : ℕ) (sources : List Source) → list_all (λ (source : Source). same_schema schema source.stream) (flagged_sources flags j s sources) ≡ list_all (λ (source : Source). same_schema schema source.stream) sources
  of_one_schema schema j s [] = refl
  of_one_schema schema j s (source ∷ sources) = ap (λ others. same_schema schema source.stream && others) (of_one_schema schema j (suc s) sources)

  same_one : (j s : ℕ) (sources : List Source) → one_schema (flagged_sources flags j s sources) ≡ one_schema sources
  same_one j s [] = refl
  same_one j s (source ∷ sources) = ap (λ all. cond all (Some source.stream) None) (of_one_schema source.stream j (suc s) sources)

  same_hop : (j s : ℕ) (sources : List Source) → hop_makes (flagged_sources flags j s sources) ≡ hop_makes sources
  same_hop j s [] = refl
  same_hop j s (a ∷ []) = refl
  same_hop j s (a ∷ b ∷ []) = refl
  same_hop j s (a ∷ b ∷ c ∷ more) = refl

  own_same : (function : Written) (j s : ℕ) (sources : List Source) → own_reduce_makes function (flagged_sources flags j s sources) ≡ own_reduce_makes function sources
  own_same (written.Map name params arrow out body) j s sources = refl
  own_same (written.Reduce name key streams arrow out body) j s sources = ap (λ fit. cond fit (schema_of out.kinds) None) (same_streams key.kind streams j s sources)
  own_same (written.Distance name key before after body) j s sources = refl
  own_same (written.Partition name key body) j s sources = refl

  own_made : (o : Option Written) (j s : ℕ) (sources : List Source) → option_and_then (λ function. own_reduce_makes function (flagged_sources flags j s sources)) o ≡ option_and_then (λ function. own_reduce_makes function sources) o
  own_made None j s sources = refl
  own_made (Some function) j s sources = own_same function j s sources

  same_made : (functions : List Written) (used : Use) (j s : ℕ) (sources : List Source) → reduce_makes functions used (flagged_sources flags j s sources) ≡ reduce_makes functions used sources
  same_made functions a_use.Same j s sources = refl
  same_made functions a_use.Least j s sources = same_one j s sources
  same_made functions a_use.Every j s sources = same_one j s sources
  same_made functions a_use.Hop j s sources = same_hop j s sources
  same_made functions a_use.Default j s sources = refl
  same_made functions (a_use.Function n) j s sources = own_made (slice_get functions n) j s sources

  reduce_made : (functions : List Written) (o : Option Use) (j s : ℕ) (sources : List Source) → option_and_then (λ (used : Use). reduce_makes functions used (flagged_sources flags j s sources)) o ≡ option_and_then (λ (used : Use). reduce_makes functions used sources) o
  reduce_made functions None j s sources = refl
  reduce_made functions (Some used) j s sources = same_made functions used j s sources

-- ---- all rules

module _ (program : Whole) where
  abbrev flags : SourceFlags
  flags = verdict_flags program.functions program.uses program.asked

  abbrev made : Shape
  made = cached_shape program

  -- what a source of the program has become
  abbrev old_source : (j s : ℕ) (source : Source) → source_at made j s ≡ Some source → (old : Source) × (source_at program.shape j s ≡ Some old) × (source ≡ flagged_source flags j s old)
  old_source = flagged_source_at flags (is_had (output_of program)) program.shape

  -- what a step of it has become
  abbrev old_step : (j : ℕ) (step : Step) → step_at made j ≡ Some step → (old : Step) × (step_at program.shape j ≡ Some old) × (step ≡ flagged_step flags j old)
  old_step = flagged_step_at flags (is_had (output_of program)) program.shape

  module _ (fits : UsesFit program.functions program.uses program.shape) where
    maps : (j s : ℕ) (source : Source) (schema : Schema) → source_at made j s ≡ Some source → taken made j source.from ≡ Some schema → option_and_then (λ (map : Use). map_makes program.functions map schema) (map_at program.uses j s) ≡ Some source.stream
    maps j s source schema at reads =
        let old = old_source j s source at in
        let from = subst (λ (it : Source). taken made j it.from ≡ Some schema) old.2 reads in
        subst (λ (it : Source). option_and_then (λ (map : Use). map_makes program.functions map schema) (map_at program.uses j s) ≡ Some it.stream) (sym old.2)
        (fits.maps j s old.0 schema old.1 (sym (same_taken flags (is_had (output_of program)) program.shape j old.0.from) ∙ from))

    keys : (j : ℕ) (step : Step) → step_at made j ≡ Some step → AllByRecursion (λ (source : Source). source.stream.key ≡ key_kind step.sources) step.sources
    keys j step at =
        let old = old_step j step at in
        subst (λ (it : Step). AllByRecursion (λ (source : Source). source.stream.key ≡ key_kind it.sources) it.sources) (sym old.2)
        (subst (λ kind. AllByRecursion (λ (source : Source). source.stream.key ≡ kind) (flagged_sources flags j 1 old.0.sources)) (sym (same_key flags j 1 old.0.sources))
        (all_sources flags (λ (source : Source). source.stream.key ≡ key_kind old.0.sources) (λ j s source e. e) j 1 old.0.sources (fits.keys j old.0 old.1)))

    reduces : (j : ℕ) (step : Step) → step_at made j ≡ Some step → option_and_then (λ (reduce : Use). reduce_makes program.functions reduce step.sources) (reduce_at program.uses j) ≡ Some step.out
    reduces j step at =
        let old = old_step j step at in
        subst (λ (it : Step). option_and_then (λ (reduce : Use). reduce_makes program.functions reduce it.sources) (reduce_at program.uses j) ≡ Some it.out) (sym old.2)
        (reduce_made flags program.functions (reduce_at program.uses j) j 1 old.0.sources ∙ fits.reduces j old.0 old.1)

    partitions : (j : ℕ) (step : Step) → step_at made j ≡ Some step → option_map_or (λ (partition : Use). partition_takes program.functions partition (key_kind step.sources)) (partition_at program.uses j) false ≡ true
    partitions j step at =
        let old = old_step j step at in
        subst (λ (it : Step). option_map_or (λ (partition : Use). partition_takes program.functions partition (key_kind it.sources)) (partition_at program.uses j) false ≡ true) (sym old.2)
        (subst (λ kind. option_map_or (λ (partition : Use). partition_takes program.functions partition kind) (partition_at program.uses j) false ≡ true) (sym (same_key flags j 1 old.0.sources))
        (fits.partitions j old.0 old.1))

    last : out_schema made (length made.steps) ≡ state_schema made
    last = same_out flags (is_had (output_of program)) program.shape (length made.steps) ∙ ap (out_schema program.shape) (many_steps flags 1 program.shape.steps) ∙ fits.last

    inputs : (j s : ℕ) (source : Source) → source_at made j s ≡ Some source → source.reducer_input ≡ true → MayBeKept source.from (round_used program.functions (map_at program.uses j s)) (round_used program.functions (partition_at program.uses j))
    inputs j s source at has =
        let old = old_source j s source at in
        let had = subst (λ (it : Source). it.reducer_input ≡ true) old.2 has in
        subst (λ (it : Source). MayBeKept it.from (round_used program.functions (map_at program.uses j s)) (round_used program.functions (partition_at program.uses j))) (sym old.2)
        (may_be_kept program.functions program.uses program.asked j s old.0.from (had_by (input_of program j s old.0.from) had))

    outputs : is_had (output_of program) ≡ true → (key_kept program.functions (reduce_at program.uses (length made.steps)) ≡ true) × (round_used program.functions (partition_at program.uses (length made.steps)) ≡ false)
    outputs had =
        subst (λ n. (key_kept program.functions (reduce_at program.uses n) ≡ true) × (round_used program.functions (partition_at program.uses n) ≡ false)) (sym (many_steps flags 1 program.shape.steps))
        (stays_local program.functions program.uses program.asked (length program.shape.steps) (had_by (output_of program) had))

    -- the functions that it uses fit its shape with these caches
    pub still_fit : UsesFit program.functions program.uses made
    still_fit = record {
      maps = maps;
      keys = keys;
      reduces = reduces;
      partitions = partitions;
      last = last;
      distance = fits.distance;
      exact = fits.exact;
      default = fits.default;
      reducer_input = inputs;
      reducer_output = outputs;
    }

  -- and it has them
  pub has_its_caches : HasItsCaches (cached program)
  has_its_caches = record {
    reducer_input = λ j s source at.
        let old = old_source j s source at in
        subst (λ (it : Source). it.reducer_input ≡ is_had (input_of program j s it.from)) (sym old.2) refl;
    mapper_input = λ j s source at.
        let old = old_source j s source at in
        subst (λ (it : Source). it.mapper_input ≡ mapper_of program j s it.from) (sym old.2) refl;
    reducer_output = ap (λ n. is_had (output_verdict program.functions program.uses program.asked n)) (sym (many_steps flags 1 program.shape.steps));
  }
