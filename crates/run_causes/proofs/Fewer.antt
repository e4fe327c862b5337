-- How many different items there are among others.
use Rattle.std.proofs.Common.{◌≡◌, ◌⊎◌, inl, inr, ℕ, zero, suc, ◌+◌, ◌/◌, ◌%◌, ◌≤◌, ◌<◌, Bool, true, false, cond, List, [], ◌∷◌, ◌++◌, refl, sym, ap, subst, map, arith, length, length-append}
use Rattle.std.specs.List.{filter, range_with_len}
use Rattle.std.proofs.Math.Nat.{div-add-mod, mul-le-mul_left, mul-suc}
use Rattle.std.proofs.lemmas.Bool.{cases_lt}
use Rattle.run_model.specs.Lists.{IsIn, below}
use Rattle.run_model.specs.Runs.{node_of}
use Rattle.run_model.specs.State.{Setup}
use Rattle.run_laws.proofs.Members.{from_filter, from_map, from_range, in_either, in_left, in_right}
use Rattle.run_causes.specs.Causes.{block_nodes}

-- no item stands twice in the list
abbrev pub Differ : {A : Type 0} → List A → Type 0
Differ [] = Unit {0}
Differ (x ∷ xs) = (IsIn x xs → ⊥) × Differ xs

-- a list that is cut at an item
record Cut {A : Type 0} (x : A) (ys : List A) : Type 0 where
  front : List A
  back : List A
  is : ys ≡ front ++ x ∷ back

cut : {A : Type 0} (x : A) (ys : List A) → IsIn x ys → Cut x ys
cut x [] i = elim i [ ]
cut x (y ∷ ys) (inl e) = record { front = []; back = ys; is = ap (λ z. z ∷ ys) (sym e) }
cut x (y ∷ ys) (inr i) = let c = cut x ys i in record { front = y ∷ c.front; back = c.back; is = ap (λ zs. y ∷ zs) c.is }

-- different items, each of which is told by another item of a list, are no more than it has
pub no_more : {A B : Type 0} (f : A → B) (apart : (x y : A) → f x ≡ f y → x ≡ y) (xs : List A) (ys : List B) → Differ xs → ((x : A) → IsIn x xs → IsIn (f x) ys) → length xs ≤ length ys
no_more f apart [] ys d h = omega arith
no_more {A = A} f apart (x ∷ xs) ys d h =
    let c = cut (f x) ys (h x (inl refl)) in
    let r = no_more f apart xs (c.front ++ c.back) d.1 (λ y i. other y i c.front c.back (in_either (f y) c.front (f x ∷ c.back) (subst (IsIn (f y)) c.is (h y (inr i))))) in
    let l = ap length c.is in
    let a = length-append c.front c.back in
    let b = length-append c.front (f x ∷ c.back) in
    omega arith
  where
    other : (y : A) → IsIn y xs → (front back : List _) → IsIn (f y) front ⊎ IsIn (f y) (f x ∷ back) → IsIn (f y) (front ++ back)
    other y i front back (inl j) = in_left (f y) front back j
    other y i front back (inr (inl e)) = absurd (d.0 (subst (λ z. IsIn z xs) (apart y x e) i))
    other y i front back (inr (inr j)) = in_right (f y) front back j

pub differ_filter : {A : Type 0} (test : A → Bool) (xs : List A) → Differ xs → Differ (filter test xs)
differ_filter test [] d = tt
differ_filter test (x ∷ xs) d = elim (test x) as (λ v. Differ (cond v (x ∷ filter test xs) (filter test xs))) [
  | true ↦ (λ i. d.0 (from_filter test x xs i).0, differ_filter test xs d.1)
  | false ↦ differ_filter test xs d.1
]

-- what is made of the numbers of a range differs, where no two of them make the same
pub differ_range : {A : Type 0} (f : ℕ → A) (a n : ℕ) → ((k j : ℕ) → a ≤ k → k < j → j < a + n → f k ≡ f j → ⊥) → Differ (map f (range_with_len a n))
differ_range f a zero h = tt
differ_range f a (suc n) h = (
  λ i. let m = from_map f (f a) (range_with_len (a + 1) n) i in let r = from_range (a + 1) n m.0 m.1 in h a m.0 (omega arith) (omega arith) (omega arith) m.2,
  differ_range f (a + 1) n (λ k j x y z e. h k j (omega arith) y (omega arith) e),
)

pub differ_below : (n : ℕ) → Differ (below n)
differ_below n = same (below n) (mapped 0 n) (differ_range (λ k. k) 0 n (λ k j x y z e. omega arith))
  where
    mapped : (a n : ℕ) → map (λ k. k) (range_with_len a n) ≡ range_with_len a n
    mapped a zero = refl
    mapped a (suc n) = ap (λ ks. a ∷ ks) (mapped (a + 1) n)

    same : (ks : List ℕ) → map (λ k. k) ks ≡ ks → Differ (map (λ k. k) ks) → Differ ks
    same ks e d = subst Differ e d

-- numbers that are less than n apart have different remainders by n
remainders_differ : (x y n : ℕ) → x < y → y < x + n → x % n ≡ y % n → ⊥
remainders_differ x y n l u e = go (cases_lt (x / n) (y / n))
  where
    go : (x / n < y / n) ⊎ (y / n ≤ x / n) → ⊥
    go (inl a) =
        let one : suc (x / n) ≤ y / n = omega arith in
        let p = mul-le-mul_left n one in
        omega (arith, div-add-mod x n, div-add-mod y n, mul-suc n (x / n))
    go (inr a) =
        let p = mul-le-mul_left n a in
        omega (arith, div-add-mod x n, div-add-mod y n)

-- the copies of a block are put on different nodes, where there are no more copies than nodes
pub block_nodes_differ : (setup : Setup) (t b : ℕ) → setup.schedule.copies ≤ setup.schedule.nodes → Differ (block_nodes setup t b)
block_nodes_differ setup t b l = differ_range (λ k. node_of t b k setup.schedule.nodes) 0 setup.schedule.copies (λ k j x y z e. remainders_differ (t + b + k) (t + b + j) setup.schedule.nodes (omega arith) (omega arith) e)
