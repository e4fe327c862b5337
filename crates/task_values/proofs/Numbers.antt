-- Numbers in order, and the blocks of a table.
use Rattle.std.proofs.Common.{◌≡◌, ℕ, zero, suc, ◌+◌, ◌*◌, ◌≤◌, List, [], ◌∷◌, ◌++◌, refl, sym, ap, ◌∙◌, map, length, take, drop, arith}
use Rattle.std.proofs.lemmas.List.{take_all, drop-drop}
use Rattle.std.specs.List.{range_with_len}
use Rattle.hal_base.specs.declared.record.Record.{Record}
use Rattle.plain_job.specs.Chain.{numbers_from, together}

pub range_is : (a n : ℕ) → range_with_len a n ≡ numbers_from a n
range_is a zero = refl
range_is a (suc n) = ap (λ ns. a ∷ ns) (range_is (a + 1) n)

take_none : {A : Type 0} (n : ℕ) → take {A = A} n [] ≡ []
take_none zero = refl
take_none (suc n) = refl

take_two : {A : Type 0} (a b : ℕ) (xs : List A) → take a xs ++ take b (drop a xs) ≡ take (a + b) xs
take_two zero b xs = let e : 0 + b ≡ b = omega arith in ap (λ k. take k xs) (sym e)
take_two (suc a) b [] = take_none b ∙ sym (take_none (suc a + b))
take_two (suc a) b (x ∷ xs) = let e : suc (a + b) ≡ suc a + b = omega arith in ap (λ ys. x ∷ ys) (take_two a b xs) ∙ ap (λ k. take k (x ∷ xs)) e

-- block b of some records
abbrev block_rows : ℕ → List Record → ℕ → List Record
block_rows size rows b = take size (drop (b * size) rows)

blocks_from : (size : ℕ) (rows : List Record) (b n : ℕ) → together (map (block_rows size rows) (range_with_len b n)) ≡ take (n * size) (drop (b * size) rows)
blocks_from size rows b zero = let e : 0 * size ≡ 0 = omega arith in sym (ap (λ k. take k (drop (b * size) rows)) e)
blocks_from size rows b (suc n) =
    let e : (b + 1) * size ≡ b * size + size = omega arith in
    let f : size + n * size ≡ suc n * size = omega arith in
    ap (λ ys. block_rows size rows b ++ ys) (blocks_from size rows (b + 1) n ∙ ap (λ k. take (n * size) (drop k rows)) e ∙ ap (take (n * size)) (sym (drop-drop size (b * size) rows)))
    ∙ take_two size (n * size) (drop (b * size) rows)
    ∙ ap (λ k. take k (drop (b * size) rows)) f

-- the blocks of a table make the table
pub blocks_make : (size : ℕ) (rows : List Record) (n : ℕ) → length rows ≤ n * size → together (map (λ b. take size (drop (b * size) rows)) (range_with_len 0 n)) ≡ rows
blocks_make size rows n l =
    let e : 0 * size ≡ 0 = omega arith in
    blocks_from size rows 0 n ∙ ap (λ k. take (n * size) (drop k rows)) e ∙ take_all (n * size) rows l
