-- The schemas of the values of names.
use Rattle.std.proofs.Common.{◌≡◌, ℕ, zero, suc, ◌+◌, ◌*◌, ◌<◌, ◌≤◌, ◌==◌, true, false, List, [], ◌∷◌, ◌++◌, refl, sym, subst, map, take, drop, arith, Some}
use Rattle.std.proofs.lemmas.Bool.{eqb-false, eqb-true}
use Rattle.std.proofs.lemmas.List.{take-append-drop}
use Rattle.std.proofs.lemmas.List.Concat.{flat_map-append}
use Rattle.std.specs.List.{AllByRecursion, filter, range_with_len, slice_get}
use Rattle.hal_base.specs.declared.fields.Schema.{Schema}
use Rattle.hal_base.specs.declared.record.Record.{Record}
use Rattle.hal_base.specs.declared.shape.Source.{Source}
use Rattle.hal_base.specs.Shapes.{out_schema, source_at}
use Rattle.hal_base.specs.Values.{IsRecordOf}
use Rattle.plain_job.specs.Chain.{parts_of, stream_of, table_at, together}
use Rattle.plain_job.specs.ChainLaws.{IsOfItsSchemas}
use Rattle.plain_job.specs.Fit.{AreRecordsOf, AreTablesOf}
use Rattle.plain_job.specs.Job.{stream}
use Rattle.plain_job.proofs.Lists.{all_filtered}
use Rattle.plain_job.proofs.Schemas.{of_their_schemas}
use Rattle.node_names.specs.declared.name.Name.TheVariants.{Spill}
use Rattle.name_values.specs.Values.{World, block_of, cached_of, out_of, value_of}
use Rattle.run_model.specs.Tasks.{count_in, last}
use Rattle.task_values.specs.Schemas.{IsHeldOf, ValuesFit}
use Rattle.task_values.specs.Sections.{split_rows}
use Rattle.task_values.specs.Worlds.{WorldFits}
use Rattle.task_values.proofs.Fitting.{sections_fit, sorted_fits}
use Rattle.task_values.proofs.Splits.{splits_make}

-- ---- parts of lists

all_first : {A : Type 0} (P : A → Type 0) (xs ys : List A) → AllByRecursion P (xs ++ ys) → AllByRecursion P xs
all_first P [] ys a = tt
all_first P (x ∷ xs) ys a = (a.0, all_first P xs ys a.1)

all_behind : {A : Type 0} (P : A → Type 0) (xs ys : List A) → AllByRecursion P (xs ++ ys) → AllByRecursion P ys
all_behind P [] ys a = a
all_behind P (x ∷ xs) ys a = all_behind P xs ys a.1

-- some items from a place on
all_between : {A : Type 0} (P : A → Type 0) (n k : ℕ) (xs : List A) → AllByRecursion P xs → AllByRecursion P (take n (drop k xs))
all_between P n k xs a =
    let behind : AllByRecursion P (drop k xs) = all_behind P (take k xs) (drop k xs) (subst (AllByRecursion P) (sym (take-append-drop k xs)) a) in
    all_first P (take n (drop k xs)) (drop n (drop k xs)) (subst (AllByRecursion P) (sym (take-append-drop n (drop k xs))) behind)

-- the list of a number, where what holds of no list is not asked for
list_at : (P : Record → Type 0) (xs : List (List Record)) (n : ℕ) → AllByRecursion (AllByRecursion P) xs → AllByRecursion P (table_at xs n)
list_at P [] n a = tt
list_at P (x ∷ xs) zero a = a.0
list_at P (x ∷ xs) (suc n) a = list_at P xs n a.1

past : (a q : ℕ) → a ≤ q → (a ≡ q → ⊥) → a + 1 ≤ q
past a q l other = omega arith

-- what holds of all that is made of lists by number holds of what is made of each of them
made_of_one : (P : Record → Type 0) (makes : Record → List Record) (f : ℕ → List Record) (a n q : ℕ) → AllByRecursion P (stream makes (together (map f (range_with_len a n)))) → a ≤ q → q < a + n → AllByRecursion P (stream makes (f q))
made_of_one P makes f a zero q h l k = absurd (omega arith)
made_of_one P makes f a (suc n) q h l k =
    let rest : List Record = together (map f (range_with_len (a + 1) n)) in
    let both : AllByRecursion P (stream makes (f a) ++ stream makes rest) = subst (AllByRecursion P) (flat_map-append makes (f a) rest) h in
    elim (a == q) as (λ b. (a == q) ≡ b → AllByRecursion P (stream makes (f q))) [
      | true ↦ λ e. subst (λ k. AllByRecursion P (stream makes (f k))) (eqb-true a q e) (all_first P (stream makes (f a)) (stream makes rest) both)
      | false ↦ λ e. made_of_one P makes f (a + 1) n q (all_behind P (stream makes (f a)) (stream makes rest) both) (past a q l (eqb-false a q e)) (omega arith)
    ] refl

-- the table of a schema has its records
table_fits : (schemas : List Schema) (tables : List (List Record)) (t : ℕ) (schema : Schema) → AreTablesOf schemas tables → slice_get schemas t ≡ Some schema → AreRecordsOf schema (table_at tables t)
table_fits [] tables t schema a e = let never : ⊥ = cc in absurd never
table_fits (first ∷ schemas) [] t schema a e = absurd a
table_fits (first ∷ schemas) (rows ∷ tables) zero schema a e = let same : first ≡ schema = cc in subst (λ (s : Schema). AreRecordsOf s rows) same a.0
table_fits (first ∷ schemas) (rows ∷ tables) (suc t) schema a e = table_fits schemas tables t schema a.1 e

-- ---- values

module _ (w : World) (f : WorldFits w) where
  schemas : IsOfItsSchemas w.means w.shape w.tables
  schemas = of_their_schemas w.means w.shape w.tables f.well_formed f.functions f.tables

  block_fits : (t b : ℕ) (schema : Schema) → slice_get w.shape.tables t ≡ Some schema → AreRecordsOf schema (block_of w t b)
  block_fits t b schema e = all_between (IsRecordOf schema) w.block (b * w.block) (table_at w.tables t) (table_fits w.shape.tables w.tables t schema f.tables e)

  spill_fits : (i j s q : ℕ) (source : Source) → 1 ≤ i → i ≤ w.shape.rounds → source_at w.shape j s ≡ Some source → q < count_in w.shape i (source_at w.shape j s) → IsHeldOf source.stream (value_of w (Spill i j s q))
  spill_fits i j s q source l h at b =
      let P : Record → Type 0 = IsRecordOf source.stream in
      let all : AllByRecursion P (stream (w.means.map i j s) (together (map (split_rows w i j s) (range_with_len 0 (count_in w.shape i (source_at w.shape j s)))))) =
      subst (λ rows. AllByRecursion P (stream (w.means.map i j s) rows)) (sym (splits_make w f.blocks i j s l)) (schemas.streams i j s source l h at)
      in
      let one : AllByRecursion P (stream (w.means.map i j s) (split_rows w i j s q)) = made_of_one P (w.means.map i j s) (split_rows w i j s) 0 (count_in w.shape i (source_at w.shape j s)) q all (omega arith) (omega arith) in
      sections_fit w.means i j s source.stream (split_rows w i j s q) one 0 w.shape.parts

  input_cache_fits : (j s p : ℕ) (source : Source) → source_at w.shape j s ≡ Some source → AreRecordsOf source.stream (cached_of w j s p)
  input_cache_fits j s p source at =
      let of_part = λ (row : Record). w.means.partition 1 j row.key == p in
      let rows : List Record = stream_of w.means w.shape w.tables 1 j s in
      sorted_fits source.stream (filter of_part rows) (all_filtered (IsRecordOf source.stream) of_part rows (schemas.streams 1 j s source (omega arith) f.well_formed.rounds.0 at))

  output_fits : (i j p : ℕ) (schema : Schema) → 1 ≤ i → i ≤ w.shape.rounds → out_schema w.shape j ≡ Some schema → AreRecordsOf schema (out_of w i j p)
  output_fits i j p schema l h e = list_at (IsRecordOf schema) (parts_of w.means w.shape w.tables i j) p (schemas.outs i j schema l h e)

pub values_fit : ValuesFit
values_fit w f =
    record {
      blocks = block_fits w f;
      block_caches = block_fits w f;
      spills = spill_fits w f;
      input_caches = input_cache_fits w f;
      outputs = output_fits w f;
      output_caches = λ i p schema l h e. sorted_fits schema (out_of w i (last w.shape) p) (output_fits w f i (last w.shape) p schema l h e);
    }
