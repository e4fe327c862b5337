-- What an accepted program keeps.
use Rattle.std.proofs.Common.{◌≡◌, ◌≤◌, ℕ, true, Ok, List, Option, length, refl, sym, ◌∙◌, subst, arith, slice_get}
use Rattle.std.proofs.lemmas.Bool.{false≢true}
use Rattle.std.proofs.lemmas.List.{length-map}
use Rattle.std.proofs.lemmas.Option.{slice_get_within}
use Rattle.std.specs.List.{AllByRecursion, position}
use Rattle.std.specs.Option.{option_map_or}
use Rattle.function_language.specs.declared.tree.Function.{Function as Written}
use Rattle.hal_base.specs.declared.fields.Schema.{Schema}
use Rattle.hal_base.specs.declared.shape.Origin.TheVariants.{State}
use Rattle.hal_base.specs.declared.shape.Step.{Step}
use Rattle.hal_base.specs.Shapes.{HasFewSources}
use Rattle.function_language.specs.Spelled.{CanBeSpelled}
use Rattle.program_sketch.specs.declared.fault.What.TheVariants.{SchemaMismatch, UnknownName}
use Rattle.program_sketch.specs.declared.sketch.StopSketch.{StopSketch}
use Rattle.program_sketch.specs.declared.sketch.StopSketch.TheVariants.{Exact, Below}
use Rattle.program_sketch.specs.declared.sketch.TableSketch.{TableSketch}
use Rattle.type_checker.specs.Functions.{AreTyped}
use Rattle.type_checker.specs.declared.uses.Use.TheVariants.{Default, Function}
use Rattle.loop_program.specs.declared.places.Named.{Named}
use Rattle.loop_program.specs.declared.places.Places.{Places}
use Rattle.loop_program.specs.declared.typing.TypedSketch.{TypedSketch}
use Rattle.loop_program.specs.Caches.{cached, is_had, output_of, verdict_flags}
use Rattle.loop_program.specs.Found.{demand, each, or_wrong}
use Rattle.loop_program.specs.Limits.{limits}
use Rattle.loop_program.specs.declared.places.Sort.TheVariants.{Distance}
use Rattle.loop_program.specs.Places.{distance_named, is_called, places, steps_named, table_named}
use Rattle.loop_program.specs.Programs.{accepted, is_exact, schemas, threshold_of, uses_of, whole}
use Rattle.loop_program.specs.Rules.{KeepsRules}
use Rattle.loop_program.specs.Schemas.{distance_takes, last_line, last_schema, same_schema, steps_typed, table_schema}
use Rattle.loop_program.specs.Whole.{Whole}
use Rattle.type_checker.proofs.Binding.{bind_ok, then_ok}
use Rattle.loop_program.proofs.Chains.{demanded, each_length, is_there, ok_same}
use Rattle.loop_program.proofs.ByNumber.{keys_fit, last_fits, maps_fit, not_kept, partitions_fit, reduces_fit}
use Rattle.loop_program.proofs.CachedShapes.{has_its_caches, still_fit}
use Rattle.loop_program.proofs.FlaggedShapes.{still_well_formed}
use Rattle.loop_program.proofs.KeptLimits.{StepsFrom, Within, limits_kept, steps_from, steps_length}
use Rattle.loop_program.proofs.KeptSchemas.{one_schema, steps_kept}

-- a program that stops exactly has the threshold 1 and the default distance
stops_exactly : (functions : List Written) (stop : StopSketch) (found : Named) → distance_named functions stop ≡ Ok found → is_exact stop ≡ true → (threshold_of stop ≡ 1) × (found.what ≡ Default)
stops_exactly functions Exact found e x = (refl, subst (λ (it : Named). it.what ≡ Default) (ok_same e) refl)
stops_exactly functions (Below threshold by) found e x = absurd (false≢true x)

-- and no other has that distance
default_exactly : (functions : List Written) (stop : StopSketch) (found : Named) → distance_named functions stop ≡ Ok found → found.what ≡ Default → is_exact stop ≡ true
default_exactly functions Exact found e d = refl
default_exactly functions (Below threshold by) found e d =
    let number = bind_ok (or_wrong (position (is_called Distance by.text) functions) by.line UnknownName) _ found e in
    absurd (no_default number.0 (subst (λ (it : Named). it.what ≡ Default) (sym (ok_same number.2)) d))
  where
    no_default : (n : ℕ) → Function n ≡ Default → ⊥
    no_default n g = cc

-- the names of a program's steps
record NamesKept (sketch : TypedSketch) (found : Places) : Type 0 where
  steps : StepsFrom State found.steps
  long : length found.steps ≡ length sketch.steps
  exact : is_exact sketch.stop ≡ true → (threshold_of sketch.stop ≡ 1) × (found.distance.what ≡ Default)
  default : found.distance.what ≡ Default → is_exact sketch.stop ≡ true

names_kept : (sketch : TypedSketch) (found : Places) → Within sketch → places sketch ≡ Ok found → NamesKept sketch found
names_kept sketch found w e =
    let distance = bind_ok (distance_named sketch.functions sketch.stop) _ found e in
    let start = bind_ok (table_named sketch.tables sketch.start) _ found distance.2 in
    let steps = bind_ok (steps_named sketch.tables sketch.functions sketch.steps) _ found start.2 in
    subst (NamesKept sketch) (ok_same steps.2)
    (record {
      steps = steps_from sketch.tables sketch.functions sketch.steps steps.0 w.inputs steps.1;
      long = steps_length sketch.tables sketch.functions sketch.steps steps.0 steps.1;
      exact = stops_exactly sketch.functions sketch.stop distance.0 distance.1;
      default = default_exactly sketch.functions sketch.stop distance.0 distance.1;
    })

-- what its limits, places and schemas keep makes a program that keeps the rules, with its caches
rules_kept : (sketch : TypedSketch) (found : Places) (tables : List Schema) (steps : List Step) (u : Unit {0}) → AreTyped sketch.functions → CanBeSpelled sketch.functions → 1 ≤ length sketch.steps → limits sketch ≡ Ok u → places sketch ≡ Ok found → each table_schema sketch.tables ≡ Ok tables → schemas sketch found tables ≡ Ok steps → KeepsRules (cached (whole sketch found tables steps))
rules_kept sketch found tables steps u t spelled some l p ts e =
    let within = limits_kept sketch u l in
    let names = names_kept sketch found within p in
    let state = bind_ok (or_wrong (slice_get tables found.start) sketch.start.line SchemaMismatch) _ steps e in
    let typed = bind_ok (steps_typed sketch.functions tables state.0 state.0 found.steps) _ steps state.2 in
    let last = then_ok (demand (same_schema (last_schema state.0 typed.0) state.0) (last_line 0 found.steps) SchemaMismatch) _ steps typed.2 in
    let distance = then_ok (demand (distance_takes sketch.functions found.distance.what state.0) found.distance.line SchemaMismatch) _ steps last.2 in
    let same : typed.0 ≡ steps = ok_same distance.2 in
    let start = is_there (slice_get tables found.start) sketch.start.line SchemaMismatch state.0 state.1 in
    let kept = steps_kept sketch.functions tables state.0 State state.0 found.steps typed.0 names.steps typed.1 in
    let out = one_schema (last_schema state.0 typed.0) state.0 (demanded (same_schema (last_schema state.0 typed.0) state.0) (last_line 0 found.steps) SchemaMismatch last.0 last.1) in
    let takes = demanded (distance_takes sketch.functions found.distance.what state.0) found.distance.line SchemaMismatch distance.0 distance.1 in
    let many : length tables ≡ length sketch.tables = each_length table_schema sketch.tables tables ts in
    let long : length found.steps ≡ length sketch.steps = names.long in
    let typed_long : length typed.0 ≡ length found.steps = kept.long in
    let tables_few : length sketch.tables ≤ 16 = within.tables in
    let steps_few : length sketch.steps ≤ 8 = within.steps in
    let uses = uses_of found in
    let bare = whole sketch found tables typed.0 in
    let shape = bare.shape in
    let output = is_had (output_of bare) in
    subst (λ (it : List Step). KeepsRules (cached (whole sketch found tables it))) same
    (record {
      typed = t;
      spelled = spelled;
      within = within.functions;
      shape = still_well_formed (verdict_flags bare.functions bare.uses bare.asked) output shape (record {
        parts = within.parts;
        rounds = within.rounds;
        tables = omega arith;
        start = slice_get_within tables found.start state.0 start;
        few_steps = (omega arith, omega arith);
        few_sources = kept.few;
        steps = kept.read;
      });
      fits = still_fit bare (record {
        maps = maps_fit sketch.functions uses shape state.0 start kept.typed;
        keys = keys_fit sketch.functions uses shape state.0 start kept.typed;
        reduces = reduces_fit sketch.functions uses shape state.0 start kept.typed;
        partitions = partitions_fit sketch.functions uses shape state.0 start kept.typed;
        last = last_fits shape state.0 typed.0 start refl (omega arith) out;
        distance = λ schema e. subst (λ (o : Option Schema). option_map_or (distance_takes sketch.functions found.distance.what) o true ≡ true) (sym start ∙ e) takes;
        exact = names.exact;
        default = names.default;
        reducer_input = λ j s source e cached. absurd (false≢true (sym (not_kept sketch.functions uses shape state.0 start kept.typed j s source e) ∙ cached));
        reducer_output = λ cached. absurd (false≢true cached);
      });
      caches = has_its_caches bare;
      names = length-map sketch.tables (λ (table : TableSketch). table.name.text) ∙ sym many;
      files = length-map sketch.tables (λ (table : TableSketch). table.file) ∙ sym many;
    })

-- it has few steps, and each of them few sources
pub steps_few : (sketch : TypedSketch) (found : Places) (tables : List Schema) (steps : List Step) (u : Unit {0}) → limits sketch ≡ Ok u → places sketch ≡ Ok found → schemas sketch found tables ≡ Ok steps → (length steps ≤ 8) × AllByRecursion HasFewSources steps
steps_few sketch found tables steps u l p e =
    let within = limits_kept sketch u l in
    let names = names_kept sketch found within p in
    let state = bind_ok (or_wrong (slice_get tables found.start) sketch.start.line SchemaMismatch) _ steps e in
    let typed = bind_ok (steps_typed sketch.functions tables state.0 state.0 found.steps) _ steps state.2 in
    let last = then_ok (demand (same_schema (last_schema state.0 typed.0) state.0) (last_line 0 found.steps) SchemaMismatch) _ steps typed.2 in
    let distance = then_ok (demand (distance_takes sketch.functions found.distance.what state.0) found.distance.line SchemaMismatch) _ steps last.2 in
    let kept = steps_kept sketch.functions tables state.0 State state.0 found.steps typed.0 names.steps typed.1 in
    let long : length found.steps ≡ length sketch.steps = names.long in
    let typed_long : length typed.0 ≡ length found.steps = kept.long in
    let few : length sketch.steps ≤ 8 = within.steps in
    subst (λ (it : List Step). (length it ≤ 8) × AllByRecursion HasFewSources it) (ok_same distance.2) (omega arith, kept.few)

-- a program that is accepted keeps the rules
pub accepted_kept : (sketch : TypedSketch) (program : Whole) → AreTyped sketch.functions → CanBeSpelled sketch.functions → 1 ≤ length sketch.steps → accepted sketch ≡ Ok program → KeepsRules program
accepted_kept sketch program t spelled some e =
    let within = then_ok (limits sketch) _ program e in
    let found = bind_ok (places sketch) _ program within.2 in
    let tables = bind_ok (each table_schema sketch.tables) _ program found.2 in
    let steps = bind_ok (schemas sketch found.0 tables.0) _ program tables.2 in
    subst KeepsRules (ok_same steps.2) (rules_kept sketch found.0 tables.0 steps.0 within.0 t spelled some within.1 found.1 tables.1 steps.1)
