-- The steps of a round, one after another.
use Rattle.std.proofs.Common.{◌≡◌, ℕ, suc, ◌+◌, List, [], ◌∷◌, Some, sym, ap, ◌∙◌, length, arith}
use Rattle.std.specs.List.{slice_get}
use Rattle.hal_base.specs.declared.record.Record.{Record}
use Rattle.hal_base.specs.declared.shape.Step.{Step}
use Rattle.hal_base.specs.declared.shape.Shape.{Shape}
use Rattle.hal_base.specs.Meaning.{Meaning}
use Rattle.plain_job.specs.Chain.{parts_by, parts_from, step_out, together}

-- the parts of the last of these steps, of which the first has number j and reads the output before
abbrev pub steps_out : Meaning → Shape → List (List Record) → ℕ → ℕ → List Record → List (List Record) → List Step → List (List Record)
steps_out m shape tables i j state before [] = before
steps_out m shape tables i j state before (step ∷ steps) = steps_out m shape tables i (j + 1) state (step_out m shape tables i j state (together before) step) steps

module _ (m : Meaning) (shape : Shape) (tables : List (List Record)) where
  walked : (i : ℕ) (state : List Record) (k count : ℕ) (rest : List Step) → count ≡ k + length rest → ((n : ℕ) → slice_get shape.steps (k + n) ≡ slice_get rest n) → steps_out m shape tables i (suc k) state (parts_from m shape tables i state k) rest ≡ parts_from m shape tables i state count
  walked i state k count [] e h = let f : k ≡ count = omega arith in ap (parts_from m shape tables i state) f
  walked i state k count (step ∷ rest) e h =
      let here : slice_get shape.steps k ≡ Some step = (let f : k ≡ k + 0 = omega arith in ap (slice_get shape.steps) f) ∙ h 0 in
      let next : suc k + 1 ≡ suc (suc k) = omega arith in
      let made : parts_from m shape tables i state (suc k) ≡ step_out m shape tables i (suc k) state (together (parts_from m shape tables i state k)) step =
      ap (parts_by m shape tables i (suc k) state (together (parts_from m shape tables i state k))) here
      in
      ap (λ j. steps_out m shape tables i j state (step_out m shape tables i (suc k) state (together (parts_from m shape tables i state k)) step) rest) next
      ∙ ap (λ parts. steps_out m shape tables i (suc (suc k)) state parts rest) (sym made)
      ∙ walked i state (suc k) count rest (omega arith) (λ n. (let f : suc k + n ≡ k + suc n = omega arith in ap (slice_get shape.steps) f) ∙ h (suc n))

  -- the steps of a round, one after another, leave what the last of them leaves
  pub round_walked : (i : ℕ) (state : List Record) → steps_out m shape tables i 1 state [] shape.steps ≡ parts_from m shape tables i state (length shape.steps)
  round_walked i state = walked i state 0 (length shape.steps) shape.steps (omega arith) (λ n. let f : 0 + n ≡ n = omega arith in ap (slice_get shape.steps) f)
