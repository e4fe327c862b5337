-- The chain by numbers.
use Rattle.std.proofs.Common.{◌≡◌, ℕ, zero, suc, ◌+◌, ◌<◌, ◌≤◌, List, [], ◌∷◌, refl, sym, ap, ◌∙◌, map, length, arith, None, Some}
use Rattle.std.specs.List.{slice_get}
use Rattle.std.specs.Option.{option_and_then}
use Rattle.std.proofs.lemmas.List.{append-nil}
use Rattle.hal_base.specs.declared.record.Record.{Record}
use Rattle.hal_base.specs.declared.shape.Origin.{Origin}
use Rattle.hal_base.specs.declared.shape.Source.{Source}
use Rattle.hal_base.specs.declared.shape.Step.{Step}
use Rattle.hal_base.specs.declared.shape.Shape.{Shape}
use Rattle.hal_base.specs.Meaning.{Meaning}
use Rattle.hal_base.specs.Shapes.{nth, source_at, step_at}
use Rattle.plain_job.specs.Job.{stream}
use Rattle.plain_job.specs.Chain.{last_out, numbers_from, out, part_out, parts_by, parts_of, rows_read, source_rows, state_of, stream_of, streams, table_at, together}
use Rattle.plain_job.specs.ChainLaws.{ChainsAreByNumbers, source_numbers}
use Rattle.plain_job.proofs.Numbers.{all_numbers, at_number, length_numbers, map_same, nth_behind, nth_first, nth_is}

-- there is no step
pub no_step : {A : Type 0} {a : A} → None ≡ Some a → ⊥
no_step e = cc

module _ (m : Meaning) (shape : Shape) (tables : List (List Record)) where
  -- the streams of sources, by number
  streams_are : (i j s : ℕ) (rows : Origin → List Record) (all rest : List Source) → ((n : ℕ) → nth all (s + n) ≡ slice_get rest n) → streams m i j rows s rest ≡ map (λ n. stream (m.map i j n) (rows_read rows (nth all n))) (numbers_from s (length rest))
  streams_are i j s rows all [] at = refl
  streams_are i j s rows all (source ∷ rest) at =
      ap (λ x. x ∷ streams m i j rows (s + 1) rest) (sym (ap (λ o. stream (m.map i j s) (rows_read rows o)) (nth_first all source rest s at)))
      ∙ ap (λ xs. stream (m.map i j s) (rows_read rows (nth all s)) ∷ xs) (streams_are i j (s + 1) rows all rest (nth_behind all source rest s at))

  -- a source by the numbers of its step and its own
  pub source_of : (j s : ℕ) (step : Step) → step_at shape j ≡ Some step → source_at shape j s ≡ nth step.sources s
  source_of j s step e = ap (option_and_then (λ (step : Step). nth step.sources s)) e

  -- the streams of step k + 1
  streams_of_step : (i k : ℕ) (step : Step) → step_at shape (suc k) ≡ Some step → streams m i (suc k) (source_rows tables i (state_of m shape tables i) (together (parts_of m shape tables i k))) 1 step.sources ≡ map (stream_of m shape tables i (suc k)) (source_numbers step)
  streams_of_step i k step e =
      let rows : Origin → List Record = source_rows tables i (state_of m shape tables i) (together (parts_of m shape tables i k)) in
      streams_are i (suc k) 1 rows step.sources step.sources (nth_is step.sources)
      ∙ map_same (λ n. stream (m.map i (suc k) n) (rows_read rows (nth step.sources n))) (stream_of m shape tables i (suc k)) (λ n. ap (λ o. stream (m.map i (suc k) n) (rows_read rows o)) (sym (source_of (suc k) n step e))) (source_numbers step)

  pub step_is : (i j : ℕ) (step : Step) → step_at shape j ≡ Some step → parts_of m shape tables i j ≡ map (part_out m i j (map (stream_of m shape tables i j) (source_numbers step))) (numbers_from 0 shape.parts)
  step_is i zero step e = absurd (no_step e)
  step_is i (suc k) step e =
      ap (parts_by m shape tables i (suc k) (state_of m shape tables i) (together (parts_of m shape tables i k))) e
      ∙ ap (λ ss. map (part_out m i (suc k) ss) (numbers_from 0 shape.parts)) (streams_of_step i k step e)

  pub out_is : (i j p : ℕ) (step : Step) → step_at shape j ≡ Some step → p < shape.parts → out m shape tables i j p ≡ part_out m i j (map (stream_of m shape tables i j) (source_numbers step)) p
  out_is i j p step e l =
      let f : ℕ → List Record = part_out m i j (map (stream_of m shape tables i j) (source_numbers step)) in
      ap (λ parts. table_at parts p) (step_is i j step e) ∙ at_number f 0 shape.parts p l ∙ (let z : 0 + p ≡ p = omega arith in ap f z)

  pub as_many : (i j : ℕ) (step : Step) → step_at shape j ≡ Some step → length (parts_of m shape tables i j) ≡ shape.parts
  as_many i j step e = ap length (step_is i j step e) ∙ length_numbers (part_out m i j (map (stream_of m shape tables i j) (source_numbers step))) 0 shape.parts

  pub parts_are : (i j : ℕ) (step : Step) → step_at shape j ≡ Some step → parts_of m shape tables i j ≡ map (out m shape tables i j) (numbers_from 0 shape.parts)
  parts_are i j step e = sym (all_numbers (parts_of m shape tables i j)) ∙ ap (λ n. map (out m shape tables i j) (numbers_from 0 n)) (as_many i j step e)

  pub last_is : (i : ℕ) → 1 ≤ i → last_out m shape tables i ≡ parts_of m shape tables i (length shape.steps)
  last_is zero l = absurd (omega arith)
  last_is (suc n) l = refl

  pub next_state : (i : ℕ) → 1 ≤ i → state_of m shape tables (i + 1) ≡ together (parts_of m shape tables i (length shape.steps))
  next_state i l = (let e : i + 1 ≡ suc i = omega arith in ap (state_of m shape tables) e) ∙ ap together (last_is i l)

pub by_numbers : ChainsAreByNumbers
by_numbers m shape tables =
    record {
      parts_are = parts_are m shape tables;
      out_is = out_is m shape tables;
      last_is = last_is m shape tables;
      first_state = append-nil (table_at tables shape.start);
      next_state = next_state m shape tables;
    }
