-- Bytes cut at the first byte of one kind.
use Rattle.std.proofs.Common.{◌≡◌, ℕ, zero, suc, ◌<◌, ◌≤◌, Bool, true, false, nat_eq, List, [], ◌∷◌, ◌++◌, refl, length, take, drop, get_or, arith, length-drop, ◌-◌}
use Rattle.std.proofs.lemmas.List.{take_all}
use Rattle.std.specs.List.{AllByRecursion, slice_split}
use Rattle.hal_base.specs.Lines.{lines_in}

pub is_false : (b : Bool) → (b ≡ true → ⊥) → b ≡ false
is_false true n = absurd (n refl)
is_false false n = refl

-- no byte before this place is c
abbrev pub NoneBefore : ℕ → List ℕ → ℕ → Type 0
NoneBefore c bytes at = (k : ℕ) → 0 ≤ k → k < at → nat_eq (get_or bytes k 0) c ≡ true → ⊥

pub later : (c b : ℕ) (bs : List ℕ) (at : ℕ) → NoneBefore c (b ∷ bs) (suc at) → NoneBefore c bs at
later c b bs at n k l m = n (suc k) (omega arith) (omega arith)

pub first : (c b : ℕ) (bs : List ℕ) (at : ℕ) → NoneBefore c (b ∷ bs) (suc at) → nat_eq b c ≡ false
first c b bs at n = is_false (nat_eq b c) (n 0 (omega arith) (omega arith))

pub split_first : (c : ℕ) (bytes : List ℕ) (at : ℕ) → at < length bytes → NoneBefore c bytes at → nat_eq (get_or bytes at 0) c ≡ true → slice_split (λ b. nat_eq b c) bytes ≡ take at bytes ∷ slice_split (λ b. nat_eq b c) (drop (suc at) bytes)
split_first c [] at l n y = absurd (omega arith)
split_first c (b ∷ bs) zero l n y = rw y
split_first c (b ∷ bs) (suc at) l n y = rw (first c b bs at n, split_first c bs at (omega arith) (later c b bs at n) y)

pub split_none : (c : ℕ) (bytes : List ℕ) → NoneBefore c bytes (length bytes) → slice_split (λ b. nat_eq b c) bytes ≡ bytes ∷ []
split_none c [] n = refl
split_none c (b ∷ bs) n = rw (first c b bs (length bs) n, split_none c bs (later c b bs (length bs) n))

pub lines_first : (bytes : List ℕ) (at : ℕ) → at < length bytes → NoneBefore 10 bytes at → nat_eq (get_or bytes at 0) 10 ≡ true → lines_in bytes ≡ take at bytes ∷ lines_in (drop (suc at) bytes)
lines_first [] at l n y = absurd (omega arith)
lines_first (b ∷ bs) zero l n y = rw y
lines_first (b ∷ bs) (suc at) l n y = rw (first 10 b bs at n, lines_first bs at (omega arith) (later 10 b bs at n) y)

pub lines_none : (bytes : List ℕ) → 0 < length bytes → NoneBefore 10 bytes (length bytes) → lines_in bytes ≡ bytes ∷ []
lines_none [] l n = absurd (omega arith)
lines_none (b ∷ []) l n = rw (first 10 b [] 0 n)
lines_none (b ∷ x ∷ xs) l n = rw (first 10 b (x ∷ xs) (length (x ∷ xs)) n, lines_none (x ∷ xs) (omega arith) (later 10 b (x ∷ xs) (length (x ∷ xs)) n))

-- no byte is c
abbrev pub Without : ℕ → List ℕ → Type 0
Without c bytes = AllByRecursion (λ b. nat_eq b c ≡ false) bytes

pub split_at_byte : (c : ℕ) (bytes rest : List ℕ) → nat_eq c c ≡ true → Without c bytes → slice_split (λ b. nat_eq b c) (bytes ++ c ∷ rest) ≡ bytes ∷ slice_split (λ b. nat_eq b c) rest
split_at_byte c [] rest e w = rw e
split_at_byte c (b ∷ bs) rest e w = rw (w.0, split_at_byte c bs rest e w.1)

pub split_without : (c : ℕ) (bytes : List ℕ) → Without c bytes → slice_split (λ b. nat_eq b c) bytes ≡ bytes ∷ []
split_without c [] w = refl
split_without c (b ∷ bs) w = rw (w.0, split_without c bs w.1)

pub lines_at_end : (bytes rest : List ℕ) → Without 10 bytes → lines_in (bytes ++ 10 ∷ rest) ≡ bytes ∷ lines_in rest
lines_at_end [] rest w = refl
lines_at_end (b ∷ bs) rest w = rw (w.0, lines_at_end bs rest w.1)

pub without-append : (c : ℕ) (xs ys : List ℕ) → Without c xs → Without c ys → Without c (xs ++ ys)
without-append c [] ys a b = b
without-append c (x ∷ xs) ys a b = (a.0, without-append c xs ys a.1 b)

pub never_there : (c : ℕ) (bytes : List ℕ) (i : ℕ) → nat_eq 0 c ≡ false → Without c bytes → nat_eq (get_or bytes i 0) c ≡ false
never_there c [] zero z w = z
never_there c [] (suc i) z w = z
never_there c (b ∷ bs) zero z w = w.0
never_there c (b ∷ bs) (suc i) z w = never_there c bs i z w.1

-- what a slice to the end is
pub to_end : (n : ℕ) (xs : List ℕ) → take (length xs - n) (drop n xs) ≡ drop n xs
to_end n xs = take_all (length xs - n) (drop n xs) (simp length-drop (omega arith))
