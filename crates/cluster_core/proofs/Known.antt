-- Values that are known, by their numbers.
use Rattle.std.proofs.Common.{◌≡◌, ◌<◌, ◌≤◌, ℕ, zero, suc, add-one, ◌+◌, ◌||◌, ◌&&◌, ◌==◌, Bool, false, List, [], ◌∷◌, ◌++◌, Option, None, Some, map, take, drop, length, refl, sym, ap, ◌∙◌, arith}
use Rattle.std.proofs.lemmas.Bool.{eq-eqb}
use Rattle.std.proofs.Math.ListN.{set}
use Rattle.std.specs.List.{list_all, range_with_len}
use Rattle.replica_table.specs.Sets.{among}
use Rattle.cluster_core.specs.States.{is_known, known_at, known_from, known_in}

-- smaller numbers are not told
before : (k n : ℕ) (values : List (Option ℕ)) → n < k → among n (known_from k values) ≡ false
before k n [] l = refl
before k n (None ∷ values) l = before (suc k) n values (omega arith)
before k n (Some v ∷ values) l = ap (λ b. b || among n (known_from (suc k) values)) (unlike n k l) ∙ before (suc k) n values (omega arith)
  where
    unlike : (n k : ℕ) → n < k → (n == k) ≡ false
    unlike n k l = grind (arith, l)

-- the first is told by its value
here : (k : ℕ) (v : Option ℕ) (values : List (Option ℕ)) → among k (known_from k (v ∷ values)) ≡ is_known v
here k None values = before (suc k) k values (omega arith)
here k (Some v) values = ap (λ b. b || among k (known_from (suc k) values)) (eq-eqb k k refl)

-- greater numbers are told by those behind
behind : (k n : ℕ) (v : Option ℕ) (values : List (Option ℕ)) → k < n → among n (known_from k (v ∷ values)) ≡ among n (known_from (suc k) values)
behind k n None values l = refl
behind k n (Some v) values l = ap (λ b. b || among n (known_from (suc k) values)) (unlike n k l)
  where
    unlike : (n k : ℕ) → k < n → (n == k) ≡ false
    unlike n k l = grind (arith, l)

all_same : (f g : ℕ → Bool) (k n : ℕ) → ((p : ℕ) → k ≤ p → f p ≡ g p) → list_all f (range_with_len k n) ≡ list_all g (range_with_len k n)
all_same f g k zero e = refl
all_same f g k (suc n) e = ap (λ b. b && list_all f (range_with_len (k + 1) n)) (e k (omega arith)) ∙ ap (λ b. g k && b) (all_same f g (k + 1) n (λ p l. e p (omega (arith, l))))

all_from : (k : ℕ) (values : List (Option ℕ)) → list_all (λ p. among p (known_from k values)) (range_with_len k (length values)) ≡ list_all is_known values
all_from k [] = refl
all_from k (v ∷ values) =
    ap (λ b. b && list_all (λ p. among p (known_from k (v ∷ values))) (range_with_len (k + 1) (length values))) (here k v values)
    ∙ ap (λ b. is_known v && b) (all_same (λ p. among p (known_from k (v ∷ values))) (λ p. among p (known_from (suc k) values)) (k + 1) (length values) (λ p l. behind k p v values (omega (arith, l))) ∙ ap (λ j. list_all (λ p. among p (known_from j values)) (range_with_len (k + 1) (length values))) (sym (add-one k)) ∙ all_from (k + 1) values)

-- the numbers of known values are told value by value
pub all_is : (values : List (Option ℕ)) → list_all (λ p. among p (known_in values)) (range_with_len 0 (length values)) ≡ list_all is_known values
all_is values = all_from 0 values

at_from : (k n : ℕ) (values : List (Option ℕ)) → among (k + n) (known_from k values) ≡ known_at values n
at_from k n [] = refl
at_from k zero (v ∷ values) = ap (λ m. among m (known_from k (v ∷ values))) none ∙ here k v values
  where
    none : k + zero ≡ k
    none = omega arith
at_from k (suc n) (v ∷ values) = behind k (k + suc n) v values (omega arith) ∙ ap (λ m. among m (known_from (suc k) values)) shift ∙ at_from (suc k) n values
  where
    shift : k + suc n ≡ suc k + n
    shift = omega arith

pub known_is : (values : List (Option ℕ)) (n : ℕ) → among n (known_in values) ≡ known_at values n
known_is values n = ap (λ m. among m (known_in values)) none ∙ at_from 0 n values
  where
    none : n ≡ 0 + n
    none = omega arith

-- one more value is forgotten
forgot : (xs : List (Option ℕ)) (i : ℕ) → i < length xs → set (map (λ (_ : Option ℕ). None) (take i xs) ++ drop i xs) i None ≡ map (λ (_ : Option ℕ). None) (take (suc i) xs) ++ drop (suc i) xs
forgot [] i l = absurd (omega arith)
forgot (x ∷ xs) zero l = refl
forgot (x ∷ xs) (suc i) l = ap (λ ys. None ∷ ys) (forgot xs i (omega arith))

pub forgotten : (xs now : List (Option ℕ)) (i : ℕ) → i < length xs → now ≡ map (λ (_ : Option ℕ). None) (take i xs) ++ drop i xs → set now i None ≡ map (λ (_ : Option ℕ). None) (take (i + 1) xs) ++ drop (i + 1) xs
forgotten xs now i l e = rw (e, add-one) (forgot xs i l)
