-- Pieces of records: one more in front, and each by its number.
use Rattle.std.proofs.Common.{◌≡◌, ℕ, zero, suc, ◌+◌, ◌*◌, ◌<◌, ◌≤◌, nat_lt, true, false, List, [], ◌∷◌, ◌++◌, None, Some, refl, sym, ap, ◌∙◌, subst, length, take, drop, length-append, arith}
use Rattle.std.specs.Prelude.{slice_get}
use Rattle.std.specs.List.{flat_map}
use Rattle.std.proofs.lemmas.Bool.{ltb-true, ltb-false, lt-ltb, le-ltb}
use Rattle.std.proofs.lemmas.List.{append-nil, append_assoc, drop-drop, drop_at, length-take-le, take-append-drop, take_all, take_at}
use Rattle.hal_base.specs.declared.record.Record.{Record}
use Rattle.record_blocks.specs.Pieces.{AreOfSize, AreCut, piece_at}

abbrev together : List (List Record) → List Record
together pieces = flat_map (λ piece. piece) pieces

sizes_more : (size : ℕ) (piece : List Record) (pieces : List (List Record)) → 1 ≤ size → 0 < length piece → length piece ≤ size → (0 < length (together pieces) → length piece ≡ size) → AreOfSize size pieces → AreOfSize size (piece ∷ pieces)
sizes_more size piece [] l some few full a = (some, few)
sizes_more size piece (next ∷ []) l some few full a = (full (omega (arith, length-append next [], a.0)), a)
sizes_more size piece (next ∷ other ∷ pieces) l some few full a = (full (omega (arith, length-append next (together (other ∷ pieces)), a.0)), a)

-- a piece in front of others, which it may only have in front of it where it is full
pub piece_more : (size : ℕ) (piece rest : List Record) (pieces : List (List Record)) → 1 ≤ size → 0 < length piece → length piece ≤ size → (0 < length rest → length piece ≡ size) → AreCut size rest pieces → AreCut size (piece ++ rest) (piece ∷ pieces)
piece_more size piece rest pieces l some few full cut = record {
  whole = ap (λ rows. piece ++ rows) cut.whole;
  sizes = sizes_more size piece pieces l some few (λ m. full (subst (λ (rows : List Record). 0 < length rows) cut.whole m)) cut.sizes;
}

-- no records are cut into no pieces
pub none_cut : (size : ℕ) → AreCut size [] []
none_cut size = record { whole = refl; sizes = tt }

-- one turn of the loop: where the front of what is left becomes a piece, the pieces behind it are those of the whole
pub next_piece : (size n : ℕ) (rows left piece rest : List Record) (pieces : List (List Record)) → 1 ≤ size → 0 < n → n ≤ size → n ≤ length left → (n < length left → n ≡ size) → piece ≡ take n left → rest ≡ drop n left
    → ((others : List (List Record)) → AreCut size left others → AreCut size rows (pieces ++ others))
    → (others : List (List Record)) → AreCut size rest others → AreCut size rows ((pieces ++ piece ∷ []) ++ others)
next_piece size n rows left piece rest pieces l some few within full p r so_far others cut =
    let long : length piece ≡ n = ap length p ∙ length-take-le n left within in
    let whole : piece ++ rest ≡ left = rw (p, r) (take-append-drop n left) in
    let sum : length piece + length rest ≡ length left = sym (length-append piece rest) ∙ ap length whole in
    let more : AreCut size (piece ++ rest) (piece ∷ others) = piece_more size piece rest others l (omega arith) (omega arith) (λ m. long ∙ full (omega arith)) cut in
    subst (λ (all : List (List Record)). AreCut size rows all) (sym (append_assoc pieces (piece ∷ []) others)) (so_far (piece ∷ others) (subst (λ (all : List Record). AreCut size all (piece ∷ others)) whole more))

-- ---- by number

less_by : (a x y : ℕ) → nat_lt (a + x) (a + y) ≡ nat_lt x y
less_by a x y = elim (nat_lt x y) as (λ t. nat_lt x y ≡ t → nat_lt (a + x) (a + y) ≡ t) [
  | true ↦ λ e. lt-ltb (a + x) (a + y) (omega (arith, ltb-true x y e))
  | false ↦ λ e. le-ltb (a + x) (a + y) (omega (arith, ltb-false x y e))
] refl

behind_first : (size b : ℕ) (piece rows : List Record) → length piece ≡ size → piece_at size (piece ++ rows) (suc b) ≡ piece_at size rows b
behind_first size b piece rows e =
    let times : suc b * size ≡ size + b * size = omega arith in
    let long : length (piece ++ rows) ≡ size + length rows = omega (arith, length-append piece rows) in
    let rest : drop (size + b * size) (piece ++ rows) ≡ drop (b * size) rows = sym (drop-drop (b * size) size (piece ++ rows)) ∙ ap (λ (xs : List Record). drop (b * size) xs) (drop_at piece rows size e) in
    rw (times, long, less_by size (b * size) (length rows), rest) refl

no_rows : (size b : ℕ) → None ≡ piece_at size [] b
no_rows size b = rw (le-ltb (b * size) 0 (omega arith)) refl

first_piece : (size : ℕ) (rows piece : List Record) → 0 < length rows → take size rows ≡ piece → Some piece ≡ piece_at size rows 0
first_piece size rows piece l e =
    let none : 0 * size ≡ 0 = omega arith in
    rw (none, lt-ltb 0 (length rows) l, e) refl

pub by_number : (size : ℕ) (pieces : List (List Record)) → 1 ≤ size → AreOfSize size pieces → (b : ℕ) → slice_get pieces b ≡ piece_at size (together pieces) b
by_number size [] l a b = no_rows size b
by_number size (piece ∷ []) l a zero = first_piece size (piece ++ []) piece (omega (arith, length-append piece [], a.0)) (rw (append-nil piece) (take_all size piece a.1))
by_number size (piece ∷ []) l a (suc b) =
    let past : length (piece ++ []) ≤ suc b * size = omega (arith, length-append piece [], a.1) in
    rw (le-ltb (suc b * size) (length (piece ++ [])) past) refl
by_number size (piece ∷ next ∷ pieces) l a zero = first_piece size (piece ++ together (next ∷ pieces)) piece (omega (arith, length-append piece (together (next ∷ pieces)), a.0)) (take_at piece (together (next ∷ pieces)) size a.0)
by_number size (piece ∷ next ∷ pieces) l a (suc b) = by_number size (next ∷ pieces) l a.1 b ∙ sym (behind_first size b piece (together (next ∷ pieces)) a.0)
