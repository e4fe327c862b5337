-- What tasks make is of the schemas that the shape names.
use Rattle.std.proofs.Common.{◌≡◌, ℕ, zero, suc, ◌+◌, ◌≤◌, ◌==◌, Bool, true, List, [], ◌∷◌, ◌∙◌, map}
use Rattle.std.specs.List.{AllByRecursion, filter, flat_map}
use Rattle.hal_base.specs.declared.fields.Schema.{Schema}
use Rattle.hal_base.specs.declared.record.Record.{Record}
use Rattle.hal_base.specs.declared.shape.Shape.{Shape}
use Rattle.hal_base.specs.declared.shape.Source.{Source}
use Rattle.hal_base.specs.declared.value.Kind.{Kind}
use Rattle.hal_base.specs.declared.value.Value.{Value}
use Rattle.hal_base.specs.Laws.{record_cmp_total, value_cmp_total}
use Rattle.hal_base.specs.Meaning.{Meaning}
use Rattle.hal_base.specs.Shapes.{key_kind}
use Rattle.hal_base.specs.Values.{FitsSchema, IsRecordOf}
use Rattle.hal_base.proofs.Sorts.{all_sorted}
use Rattle.hal_base.proofs.Strict.{all_distinct}
use Rattle.plain_job.specs.Chain.{numbers_from, together}
use Rattle.plain_job.specs.Fit.{AreRecordsOf, FunctionsFit, HaveGroups, IsKeyOf}
use Rattle.plain_job.specs.Job.{group, job, key_of, keys, stream}
use Rattle.plain_job.specs.Sections.{source_section}
use Rattle.plain_job.proofs.Lists.{all_both, all_filtered, all_flat, all_mapped, all_weaker}
use Rattle.plain_job.proofs.Schemas.{group_fits}
use Rattle.sorted_parts.specs.Spills.{spilled}
use Rattle.task_outputs.specs.Given.{AreSections, AreTaken, HaveSections}

-- records of a schema have its kinds
pub have_kinds : (schema : Schema) (rows : List Record) → AreRecordsOf schema rows → AllByRecursion (FitsSchema schema) rows
have_kinds schema rows a = all_weaker (IsRecordOf schema) (FitsSchema schema) rows (λ row r. r.fits) a

-- ---- maps

module _ (m : Meaning) (i j s : ℕ) (schema : Schema) (rows : List Record) (a : AreRecordsOf schema (stream (m.map i j s) rows)) where
  section_fits : (p : ℕ) → AllByRecursion (FitsSchema schema) (source_section m i j s p rows)
  section_fits p =
      let emitted : List Record = stream (m.map i j s) rows in
      let of_part : Record → Bool = λ row. m.partition i j row.key == p in
      have_kinds schema (source_section m i j s p rows) (all_sorted record_cmp_total (IsRecordOf schema) (filter of_part emitted) (all_filtered (IsRecordOf schema) of_part emitted a))

  sections_fit : (p n : ℕ) → AllByRecursion (AllByRecursion (FitsSchema schema)) (map (λ p. source_section m i j s p rows) (numbers_from p n))
  sections_fit p zero = tt
  sections_fit p (suc n) = (section_fits p, sections_fit (p + 1) n)

-- what a map emits for records that its source takes has the kinds of its stream, part by part
pub spill_fits : (m : Meaning) (shape : Shape) (i j s : ℕ) (rows : List Record) → FunctionsFit m shape → i ≤ shape.rounds → (given : AreTaken shape j s rows) → AllByRecursion (AllByRecursion (FitsSchema given.source.stream)) (spilled m i j s rows shape.parts)
spill_fits m shape i j s rows f l given =
    let emitted : AreRecordsOf given.source.stream (stream (m.map i j s) rows) =
    all_flat (IsRecordOf given.schema) (IsRecordOf given.source.stream) (m.map i j s) rows (λ row r. f.maps i j s given.source given.schema row l given.is_there given.takes r) given.each in
    sections_fit m i j s given.source.stream rows emitted 0 shape.parts

-- ---- reduces

together_fits : (schema : Schema) (sections : List (List Record)) → AllByRecursion (AreRecordsOf schema) sections → AreRecordsOf schema (together sections)
together_fits schema sections a = all_flat (AreRecordsOf schema) (IsRecordOf schema) (λ rows. rows) sections (λ rows r. r) a

groups_fit : (sources : List Source) (inputs : List (List (List Record))) (key : Value) → HaveSections sources inputs → HaveGroups sources (map (λ rows. group rows key) (map together inputs))
groups_fit [] [] key h = tt
groups_fit [] (sections ∷ inputs) key h = absurd h
groups_fit (source ∷ sources) [] key h = absurd h
groups_fit (source ∷ sources) (sections ∷ inputs) key h = (group_fits source.stream (together sections) key (together_fits source.stream sections h.0), groups_fit sources inputs key h.1)

keys_fit : (kind : Kind) (sources : List Source) (inputs : List (List (List Record))) → AllByRecursion (λ (source : Source). source.stream.key ≡ kind) sources → HaveSections sources inputs → AllByRecursion (IsKeyOf kind) (flat_map (map key_of) (map together inputs))
keys_fit kind [] [] k h = tt
keys_fit kind [] (sections ∷ inputs) k h = absurd h
keys_fit kind (source ∷ sources) [] k h = absurd h
keys_fit kind (source ∷ sources) (sections ∷ inputs) k h =
    all_both (IsKeyOf kind) (map key_of (together sections)) (flat_map (map key_of) (map together inputs))
    (all_mapped (IsRecordOf source.stream) (IsKeyOf kind) key_of (together sections) (λ row r. record { good = r.key; same_kind = r.fits.key ∙ k.0 }) (together_fits source.stream sections h.0))
    (keys_fit kind sources inputs k.1 h.1)

-- what a reduce emits over sections of its streams has the kinds of its step
pub job_fits : (m : Meaning) (shape : Shape) (i j : ℕ) (inputs : List (List (List Record))) → FunctionsFit m shape → i ≤ shape.rounds → (given : AreSections shape j inputs) → AllByRecursion (FitsSchema given.step.out) (job (m.reduce i j) (λ _. true) (map together inputs))
job_fits m shape i j inputs f l given =
    let kind : Kind = key_kind given.step.sources in
    let ss : List (List Record) = map together inputs in
    have_kinds given.step.out (job (m.reduce i j) (λ _. true) ss)
    (all_flat (IsKeyOf kind) (IsRecordOf given.step.out) (λ key. m.reduce i j key (map (λ rows. group rows key) ss)) (filter (λ _. true) (keys ss))
    (λ key k. f.reduces i j given.step key (map (λ rows. group rows key) ss) l given.is_there k (groups_fit given.step.sources inputs key given.each))
    (all_filtered (IsKeyOf kind) (λ _. true) (keys ss) (all_distinct value_cmp_total (IsKeyOf kind) (flat_map (map key_of) ss) (keys_fit kind given.step.sources inputs (f.keys j given.step given.is_there) given.each))))
