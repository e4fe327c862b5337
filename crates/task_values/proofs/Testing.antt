-- Tests part by part, and as a whole.
use Rattle.std.proofs.Common.{◌≡◌, ℕ, zero, suc, ◌+◌, ◌-◌, ◌≤◌, Bool, true, false, List, [], ◌∷◌, refl, sym, ap, ◌∙◌, map, min, sum, length, arith, add-one, Some}
use Rattle.std.specs.List.{flat_map}
use Rattle.std.specs.Prelude.{if◌then◌else◌}
use Rattle.hal_base.specs.declared.fields.Schema.{Schema}
use Rattle.hal_base.specs.declared.record.Record.{Record}
use Rattle.hal_base.specs.declared.value.Value.{Value}
use Rattle.hal_base.specs.Laws.{record_cmp_total}
use Rattle.hal_base.specs.Order.{record_cmp}
use Rattle.hal_base.specs.Shapes.{state_schema}
use Rattle.hal_base.specs.Sorted.{sorted}
use Rattle.hal_base.specs.Values.{IsRecordOf}
use Rattle.hal_base.proofs.Sorts.{ascending_sorted}
use Rattle.hal_base.proofs.Strict.{sorted_same}
use Rattle.plain_job.specs.Chain.{last_out, numbers_from, state_of, table_at, together}
use Rattle.plain_job.specs.Distances.{distance_by, part_distances}
use Rattle.plain_job.specs.Fit.{AreRecordsOf}
use Rattle.plain_job.specs.Job.{group, keys}
use Rattle.plain_job.proofs.ByNumbers.{as_many}
use Rattle.plain_job.proofs.Distances.{distance_sorted}
use Rattle.plain_job.proofs.KeyParts.{parts_make}
use Rattle.plain_job.proofs.Lists.{all_flat}
use Rattle.plain_job.proofs.Numbers.{map_same, shifted}
use Rattle.plain_job.proofs.Schemas.{item_there, of_their_schemas}
use Rattle.plain_job.proofs.TellDistance.{tell_the_distance}
use Rattle.node_names.specs.declared.name.Name.TheVariants.{Out}
use Rattle.name_values.specs.Values.{World, out_of}
use Rattle.run_model.specs.Lists.{below}
use Rattle.run_model.specs.Tasks.{last, last_outs}
use Rattle.task_values.specs.Tests.{TestsAreMade, TestsMakeTheDistance, far, rows_of, test_by, test_of, tests_of}
use Rattle.task_values.specs.Worlds.{WorldFits}
use Rattle.task_values.proofs.Numbers.{range_is}
use Rattle.task_values.proofs.Spills.{by_number, step_there}
use Rattle.task_values.proofs.Splits.{before_is, parts_all}

-- ---- one test

old_sorted : (apart : Value → List (List Value) → List (List Value) → ℕ) (old new : List Record) → distance_by apart (sorted record_cmp old) new ≡ distance_by apart old new
old_sorted apart old new =
    sym (distance_sorted apart (sorted record_cmp old) new)
    ∙ ap (λ rows. distance_by apart rows (sorted record_cmp new)) (sorted_same record_cmp (sorted record_cmp old) (ascending_sorted record_cmp_total old))
    ∙ distance_sorted apart old new

module _ (w : World) where
  -- all parts of what a round leaves
  all_outs : (i : ℕ) → 1 ≤ i → flat_map (rows_of w) (last_outs w.shape i) ≡ together (last_out w.means w.shape w.tables i)
  all_outs zero l = absurd (omega arith)
  all_outs (suc n) l = by_number (rows_of w) (Out (suc n) (last w.shape)) (out_of w (suc n) (last w.shape)) (λ p. refl) (below w.shape.parts) ∙ parts_all w (suc n) (last w.shape)

  as_tested : (i p : ℕ) (b : Bool) → w.shape.reducer_output ≡ b → test_by w i p b ≡ test_of w i p
  as_tested i p b e = ap (test_by w i p) (sym e)

  before_outs : (i : ℕ) → 2 ≤ i → flat_map (rows_of w) (last_outs w.shape (i - 1)) ≡ state_of w.means w.shape w.tables i
  before_outs i l =
      by_number (rows_of w) (Out (i - 1) (last w.shape)) (out_of w (i - 1) (last w.shape)) (λ p. refl) (below w.shape.parts)
      ∙ parts_all w (i - 1) (last w.shape)
      ∙ before_is w.means w.shape w.tables i l

pub tests_made : TestsAreMade
tests_made w i p l =
    record {
      by_cache = λ e. old_sorted w.means.distance (out_of w (i - 1) (last w.shape) p) (out_of w i (last w.shape) p) ∙ as_tested w i p true e;
      by_part = λ e. as_tested w i p true e;
      by_all = λ e.
          ap (λ old. far w old (flat_map (rows_of w) (last_outs w.shape i))) (before_outs w i l)
          ∙ ap (far w (state_of w.means w.shape w.tables i)) (all_outs w i (omega arith))
          ∙ as_tested w i p false e;
    }

-- ---- the tests of a round

-- the distances of parts, by number
distances_are : (apart : Value → List (List Value) → List (List Value) → ℕ) (olds news : List (List Record)) (n : ℕ) → length olds ≡ n → length news ≡ n → map (λ p. distance_by apart (table_at olds p) (table_at news p)) (numbers_from 0 n) ≡ part_distances apart olds news
distances_are apart [] [] zero a b = refl
distances_are apart [] (new ∷ news) zero a b = absurd (omega arith)
distances_are apart (old ∷ olds) news zero a b = absurd (omega arith)
distances_are apart [] news (suc n) a b = absurd (omega arith)
distances_are apart (old ∷ olds) [] (suc n) a b = absurd (omega arith)
distances_are apart (old ∷ olds) (new ∷ news) (suc n) a b =
    let f : ℕ → ℕ = λ p. distance_by apart (table_at (old ∷ olds) p) (table_at (new ∷ news) p) in
    let one : (p : ℕ) → f (p + 1) ≡ distance_by apart (table_at olds p) (table_at news p) =
    λ p. ap f (add-one p)
    in
    ap (λ ns. distance_by apart old new ∷ ns) (shifted f 0 n ∙ map_same (λ p. f (p + 1)) (λ p. distance_by apart (table_at olds p) (table_at news p)) one (numbers_from 0 n) ∙ distances_are apart olds news n (omega arith) (omega arith))

once : (n greatest : ℕ) → min (0 + min n greatest) greatest ≡ min n greatest
once n greatest = omega arith

module _ (w : World) (f : WorldFits w) where
  abbrev outs : ℕ → List (List Record)
  outs i = last_out w.means w.shape w.tables i

  many : (n : ℕ) → length (outs (suc n)) ≡ w.shape.parts
  many n =
      let there = step_there w (last w.shape) f.well_formed.few_steps.0 (omega arith) in
      as_many w.means w.shape w.tables (suc n) (last w.shape) there.0 there.1

  -- the parts' distances make that of the whole
  by_parts : (n : ℕ) → w.shape.reducer_output ≡ true → min (sum (map (λ p. test_by w (suc (suc n)) p true) (below w.shape.parts))) 9223372036854775807 ≡ far w (together (outs (suc n))) (together (outs (suc (suc n))))
  by_parts n e =
      let own = f.functions.reducer_output e in
      let before : suc (suc n) - 1 ≡ suc n = omega arith in
      let tests : ℕ → List ℕ = λ k. map (λ p. far w (out_of w k (last w.shape) p) (out_of w (suc (suc n)) (last w.shape) p)) (below w.shape.parts) in
      ap (λ k. min (sum (tests k)) 9223372036854775807) before
      ∙ ap (λ ps. min (sum (map (λ p. far w (out_of w (suc n) (last w.shape) p) (out_of w (suc (suc n)) (last w.shape) p)) ps)) 9223372036854775807) (range_is 0 w.shape.parts)
      ∙ ap (λ ns. min (sum ns) 9223372036854775807) (distances_are w.means.distance (outs (suc n)) (outs (suc (suc n))) w.shape.parts (many n) (many (suc n)))
      ∙ parts_make w.means w.shape w.tables f.rounds f.keys own.0 own.1 w.means.distance (suc n) (suc (suc n)) (omega arith) (omega arith)

  capped_once : (old new : List Record) → min (sum (far w old new ∷ [])) 9223372036854775807 ≡ far w old new
  capped_once old new = once (sum (map (λ key. w.means.distance key (group old key) (group new key)) (keys (old ∷ new ∷ [])))) 9223372036854775807

  sum_is : (n : ℕ) → min (sum (tests_of w (suc (suc n)))) 9223372036854775807 ≡ far w (together (outs (suc n))) (together (outs (suc (suc n))))
  sum_is n =
      elim w.shape.reducer_output as (λ b. w.shape.reducer_output ≡ b → min (sum (map (λ p. test_by w (suc (suc n)) p b) (below (if b then w.shape.parts else 1)))) 9223372036854775807 ≡ far w (together (outs (suc n))) (together (outs (suc (suc n))))) [
        | true ↦ λ e. by_parts n e
        | false ↦ λ e. capped_once (together (outs (suc n))) (together (outs (suc (suc n))))
      ] refl

  -- what a round leaves is of the schema of the state
  left_fits : (i : ℕ) (schema : Schema) → i ≤ w.shape.rounds → state_schema w.shape ≡ Some schema → AreRecordsOf schema (together (outs i))
  left_fits i schema l e =
      let schemas = of_their_schemas w.means w.shape w.tables f.well_formed f.functions f.tables in
      all_flat (AreRecordsOf schema) (IsRecordOf schema) (λ rows. rows) (outs i) (λ rows r. r) (schemas.states i schema l e)

pub tests_make : TestsMakeTheDistance
tests_make w f zero l h = absurd (omega arith)
tests_make w f (suc zero) l h = absurd (omega arith)
tests_make w f (suc (suc n)) l h =
    let schema = item_there w.shape.tables w.shape.start f.well_formed.start in
    sum_is w f n
    ∙ tell_the_distance w.means w.shape schema.0 f.functions schema.1 (together (outs w f (suc n))) (together (outs w f (suc (suc n)))) (left_fits w f (suc n) schema.0 (omega arith) schema.1) (left_fits w f (suc (suc n)) schema.0 h schema.1)
