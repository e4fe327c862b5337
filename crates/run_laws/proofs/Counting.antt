-- How many items of a list pass a test.
use Rattle.std.proofs.Common.{◌≡◌, inl, inr, ◌+◌, ◌≤◌, ◌<◌, Bool, true, false, cond, List, [], ◌∷◌, ◌++◌, refl, sym, ap, ◌∙◌, arith, length}
use Rattle.std.specs.List.{filter}
use Rattle.run_model.specs.Lists.{IsIn, number_of}

one_more : {A : Type 0} (v : Bool) (x : A) (xs : List A) → length xs ≤ length (cond v (x ∷ xs) xs)
one_more true x xs = omega arith
one_more false x xs = omega arith

pub number_append : {A : Type 0} (test : A → Bool) (xs ys : List A) → number_of test (xs ++ ys) ≡ number_of test xs + number_of test ys
number_append test [] ys = omega arith
number_append test (x ∷ xs) ys = elim (test x) as (λ v. length (cond v (x ∷ filter test (xs ++ ys)) (filter test (xs ++ ys))) ≡ length (cond v (x ∷ filter test xs) (filter test xs)) + number_of test ys) [
  | true ↦ let h = number_append test xs ys in omega arith
  | false ↦ number_append test xs ys
]

pub number_bound : {A : Type 0} (test : A → Bool) (xs : List A) → number_of test xs ≤ length xs
number_bound test [] = omega arith
number_bound test (x ∷ xs) = let h = number_bound test xs in elim (test x) as (λ v. length (cond v (x ∷ filter test xs) (filter test xs)) ≤ length (x ∷ xs)) [ true ↦ omega arith | false ↦ omega arith ]

-- where less passes, no more do
pub number_mono : {A : Type 0} (test more : A → Bool) (xs : List A) → ((x : A) → test x ≡ true → more x ≡ true) → number_of test xs ≤ number_of more xs
number_mono test more [] f = omega arith
number_mono test more (x ∷ xs) f = let h = number_mono test more xs f in
    elim (test x) as (λ v. test x ≡ v → length (cond v (x ∷ filter test xs) (filter test xs)) ≤ length (cond (more x) (x ∷ filter more xs) (filter more xs))) [
      | true ↦ λ e. rw (f x e) (omega arith)
      | false ↦ λ e. let k = one_more (more x) x (filter more xs) in omega arith
    ] refl

-- where less passes, and one of the items passes no longer, fewer do
pub number_falls : {A : Type 0} (test more : A → Bool) (x : A) (xs : List A) → ((x : A) → test x ≡ true → more x ≡ true) → IsIn x xs → test x ≡ false → more x ≡ true → number_of test xs < number_of more xs
number_falls test more x [] f i t m = elim i [ ]
number_falls test more x (y ∷ xs) f (inl e) t m =
    let h = number_mono test more xs f in
    rw (sym (ap test e) ∙ t, sym (ap more e) ∙ m) (omega arith)
number_falls test more x (y ∷ xs) f (inr i) t m = let h = number_falls test more x xs f i t m in
    elim (test y) as (λ v. test y ≡ v → length (cond v (y ∷ filter test xs) (filter test xs)) < length (cond (more y) (y ∷ filter more xs) (filter more xs))) [
      | true ↦ λ e. rw (f y e) (omega arith)
      | false ↦ λ e. let k = one_more (more y) y (filter more xs) in omega arith
    ] refl
