-- The schemas of what tasks make.
use Rattle.std.proofs.Common.{◌≡◌, ℕ, zero, suc, ◌+◌, ◌≤◌, ◌==◌, true, List, [], ◌∷◌, sym, ap, ◌∙◌, subst, map, length, Some}
use Rattle.std.specs.List.{AllByRecursion, filter, flat_map, range_with_len, slice_get}
use Rattle.hal_base.specs.declared.fields.Schema.{Schema}
use Rattle.hal_base.specs.declared.record.Record.{Record}
use Rattle.hal_base.specs.declared.shape.Shape.{Shape}
use Rattle.hal_base.specs.declared.shape.Source.{Source}
use Rattle.hal_base.specs.declared.shape.Step.{Step}
use Rattle.hal_base.specs.declared.value.Kind.{Kind}
use Rattle.hal_base.specs.declared.value.Value.{Value}
use Rattle.hal_base.specs.Laws.{record_cmp_total, value_cmp_total}
use Rattle.hal_base.specs.Meaning.{Meaning}
use Rattle.hal_base.specs.Order.{record_cmp}
use Rattle.hal_base.specs.Shapes.{key_kind, nth, step_at}
use Rattle.hal_base.specs.Sorted.{sorted}
use Rattle.hal_base.specs.Values.{IsRecordOf}
use Rattle.hal_base.proofs.Sorts.{all_sorted}
use Rattle.hal_base.proofs.Strict.{all_distinct}
use Rattle.plain_job.specs.Chain.{numbers_from}
use Rattle.plain_job.specs.Fit.{AreRecordsOf, FunctionsFit, HaveGroups, IsKeyOf}
use Rattle.plain_job.specs.Job.{group, job, key_of, keys, stream}
use Rattle.plain_job.specs.Sections.{source_section}
use Rattle.plain_job.proofs.ByNumbers.{source_of}
use Rattle.plain_job.proofs.Lists.{all_both, all_filtered, all_flat, all_mapped}
use Rattle.plain_job.proofs.Numbers.{nth_behind, nth_first, nth_is}
use Rattle.plain_job.proofs.Schemas.{group_fits}
use Rattle.run_model.specs.Tasks.{source_count, source_numbers}
use Rattle.task_values.specs.Reads.{Answer, all_lists, of_source, reduced}
use Rattle.task_values.specs.Schemas.{MapsFit, ReducesFit, StreamsRead}

pub sorted_fits : (schema : Schema) (rows : List Record) → AreRecordsOf schema rows → AreRecordsOf schema (sorted record_cmp rows)
sorted_fits schema rows a = all_sorted record_cmp_total (IsRecordOf schema) rows a

-- ---- maps

module _ (m : Meaning) (i j s : ℕ) (schema : Schema) (rows : List Record) (a : AreRecordsOf schema (stream (m.map i j s) rows)) where
  pub section_fits : (p : ℕ) → AreRecordsOf schema (source_section m i j s p rows)
  section_fits p =
      let emitted : List Record = stream (m.map i j s) rows in
      let of_part = λ (row : Record). m.partition i j row.key == p in
      sorted_fits schema (filter of_part emitted) (all_filtered (IsRecordOf schema) of_part emitted a)

  pub sections_fit : (p n : ℕ) → AllByRecursion (AreRecordsOf schema) (map (λ p. source_section m i j s p rows) (numbers_from p n))
  sections_fit p zero = tt
  sections_fit p (suc n) = (section_fits p, sections_fit (p + 1) n)

pub maps_fit : MapsFit
maps_fit m shape f i j s source schema answers l at e a =
    let emitted : AreRecordsOf source.stream (stream (m.map i j s) (all_lists answers)) = all_flat (IsRecordOf schema) (IsRecordOf source.stream) (m.map i j s) (all_lists answers) (λ row r. f.maps i j s source schema row l at e r) a in
    record { spill = λ q. sections_fit m i j s source.stream (all_lists answers) emitted 0 shape.parts; block = λ q t b. a }

-- ---- reduces

-- streams of the schemas of sources
abbrev StreamsOf : List Source → List (List Record) → Type 0
StreamsOf [] [] = Unit {0}
StreamsOf [] (rows ∷ ss) = ⊥
StreamsOf (source ∷ sources) [] = ⊥
StreamsOf (source ∷ sources) (rows ∷ ss) = AreRecordsOf source.stream rows × StreamsOf sources ss

groups_of : (sources : List Source) (ss : List (List Record)) (key : Value) → StreamsOf sources ss → HaveGroups sources (map (λ rows. group rows key) ss)
groups_of [] [] key h = tt
groups_of [] (rows ∷ ss) key h = absurd h
groups_of (source ∷ sources) [] key h = absurd h
groups_of (source ∷ sources) (rows ∷ ss) key h = (group_fits source.stream rows key h.0, groups_of sources ss key h.1)

keys_of : (kind : Kind) (sources : List Source) (ss : List (List Record)) → AllByRecursion (λ (source : Source). source.stream.key ≡ kind) sources → StreamsOf sources ss → AllByRecursion (IsKeyOf kind) (flat_map (map key_of) ss)
keys_of kind [] [] k h = tt
keys_of kind [] (rows ∷ ss) k h = absurd h
keys_of kind (source ∷ sources) [] k h = absurd h
keys_of kind (source ∷ sources) (rows ∷ ss) k h =
    all_both (IsKeyOf kind) (map key_of rows) (flat_map (map key_of) ss)
    (all_mapped (IsRecordOf source.stream) (IsKeyOf kind) key_of rows (λ row r. record { good = r.key; same_kind = r.fits.key ∙ k.0 }) h.0)
    (keys_of kind sources ss k.1 h.1)

job_fits : (m : Meaning) (shape : Shape) → FunctionsFit m shape → (i j : ℕ) (step : Step) → i ≤ shape.rounds → step_at shape j ≡ Some step → (ss : List (List Record)) → StreamsOf step.sources ss → AreRecordsOf step.out (job (m.reduce i j) (λ _. true) ss)
job_fits m shape f i j step l e ss h =
    let kind : Kind = key_kind step.sources in
    all_flat (IsKeyOf kind) (IsRecordOf step.out) (λ key. m.reduce i j key (map (λ rows. group rows key) ss)) (filter (λ _. true) (keys ss))
    (λ key k. f.reduces i j step key (map (λ rows. group rows key) ss) l e k (groups_of step.sources ss key h))
    (all_filtered (IsKeyOf kind) (λ _. true) (keys ss) (all_distinct value_cmp_total (IsKeyOf kind) (flat_map (map key_of) ss) (keys_of kind step.sources ss (f.keys j step e) h)))

-- streams by number
by_number : (f : ℕ → List Record) (a : ℕ) (all rest : List Source) → ((n : ℕ) → nth all (a + n) ≡ slice_get rest n) → ((s : ℕ) (source : Source) → nth all s ≡ Some source → AreRecordsOf source.stream (f s)) → StreamsOf rest (map f (range_with_len a (length rest)))
by_number f a all [] at h = tt
by_number f a all (source ∷ rest) at h = (h a source (nth_first all source rest a at), by_number f (a + 1) all rest (nth_behind all source rest a at) h)

module _ (m : Meaning) (shape : Shape) (f : FunctionsFit m shape) (i j : ℕ) (step : Step) (answers : List Answer) (l : i ≤ shape.rounds) (e : step_at shape j ≡ Some step) (read : StreamsRead shape j answers) where
  streams_of_step : StreamsOf step.sources (map (λ s. all_lists (of_source s answers)) (source_numbers shape j))
  streams_of_step =
      let lists : ℕ → List Record = λ s. all_lists (of_source s answers) in
      let count : length step.sources ≡ source_count (step_at shape j) = ap source_count (sym e) in
      subst (λ n. StreamsOf step.sources (map lists (range_with_len 1 n))) count
      (by_number lists 1 step.sources step.sources (nth_is step.sources) (λ s source at. read s source (source_of m shape [] j s step e ∙ at)))

  reduced_fits : AreRecordsOf step.out (reduced m shape i j answers)
  reduced_fits = job_fits m shape f i j step l e (map (λ s. all_lists (of_source s answers)) (source_numbers shape j)) streams_of_step

pub reduces_fit : ReducesFit
reduces_fit m shape f i j p step answers l e read =
    let fits : AreRecordsOf step.out (reduced m shape i j answers) = reduced_fits m shape f i j step answers l e read in
    record {
      output = fits;
      output_kept = sorted_fits step.out (reduced m shape i j answers) fits;
      input_kept = λ s source at. sorted_fits source.stream (all_lists (of_source s answers)) (read s source at);
    }
