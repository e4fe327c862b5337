-- What stands in lists.
use Rattle.std.proofs.Common.{◌≡◌, ◌⊎◌, inl, inr, ℕ, zero, suc, ◌+◌, ◌≤◌, ◌<◌, Bool, true, false, ◌||◌, ◌&&◌, not, cond, List, [], ◌∷◌, ◌++◌, None, Some, refl, sym, ap, subst, ◌∙◌, map, arith, ◌==◌}
use Rattle.std.specs.List.{filter, find, flat_map, list_all, list_any, range_with_len}
use Rattle.std.proofs.lemmas.Bool.{eqb-false, eqb-true, false≢true}
use Rattle.std.proofs.lemmas.Bool.Decides.{nat_tests}
use Rattle.node_names.specs.declared.task.Task.{Task}
use Rattle.node_names.specs.declared.task.Task.TheVariants.{Map, Reduce, Test}
use Rattle.run_model.specs.Lists.{IsIn, below}
use Rattle.run_model.specs.Tasks.{is_task}

-- ---- members

pub in_left : {A : Type 0} (x : A) (xs ys : List A) → IsIn x xs → IsIn x (xs ++ ys)
in_left x [] ys i = elim i [ ]
in_left x (y ∷ xs) ys (inl e) = inl e
in_left x (y ∷ xs) ys (inr i) = inr (in_left x xs ys i)

pub in_right : {A : Type 0} (x : A) (xs ys : List A) → IsIn x ys → IsIn x (xs ++ ys)
in_right x [] ys i = i
in_right x (y ∷ xs) ys i = inr (in_right x xs ys i)

pub in_either : {A : Type 0} (x : A) (xs ys : List A) → IsIn x (xs ++ ys) → IsIn x xs ⊎ IsIn x ys
in_either x [] ys i = inr i
in_either x (y ∷ xs) ys (inl e) = inl (inl e)
in_either x (y ∷ xs) ys (inr i) = elim (in_either x xs ys i) [ inl a ↦ inl (inr a) | inr b ↦ inr b ]

pub in_map : {A B : Type 0} (f : A → B) (x : A) (xs : List A) → IsIn x xs → IsIn (f x) (map f xs)
in_map f x [] i = elim i [ ]
in_map f x (y ∷ xs) (inl e) = inl (ap f e)
in_map f x (y ∷ xs) (inr i) = inr (in_map f x xs i)

pub from_map : {A B : Type 0} (f : A → B) (y : B) (xs : List A) → IsIn y (map f xs) → (x : A) × IsIn x xs × (y ≡ f x)
from_map f y [] i = elim i [ ]
from_map f y (x ∷ xs) (inl e) = (x, inl refl, e)
from_map f y (x ∷ xs) (inr i) = let m = from_map f y xs i in (m.0, inr m.1, m.2)

pub in_flat : {A B : Type 0} (f : A → List B) (x : A) (y : B) (xs : List A) → IsIn x xs → IsIn y (f x) → IsIn y (flat_map f xs)
in_flat f x y [] i j = elim i [ ]
in_flat f x y (z ∷ xs) (inl e) i = in_left y (f z) (flat_map f xs) (subst (λ w. IsIn y (f w)) e i)
in_flat f x y (z ∷ xs) (inr m) i = in_right y (f z) (flat_map f xs) (in_flat f x y xs m i)

pub from_flat : {A B : Type 0} (f : A → List B) (y : B) (xs : List A) → IsIn y (flat_map f xs) → (x : A) × IsIn x xs × IsIn y (f x)
from_flat f y [] i = elim i [ ]
from_flat f y (x ∷ xs) i = elim (in_either y (f x) (flat_map f xs) i) [
  | inl a ↦ (x, inl refl, a)
  | inr b ↦ let m = from_flat f y xs b in (m.0, inr m.1, m.2)
]

-- what passes a test stands in the list, and passes it
pub from_filter : {A : Type 0} (test : A → Bool) (x : A) (xs : List A) → IsIn x (filter test xs) → IsIn x xs × (test x ≡ true)
from_filter test x [] i = elim i [ ]
from_filter test x (y ∷ xs) i = elim (test y) as (λ b. test y ≡ b → IsIn x (cond b (y ∷ filter test xs) (filter test xs)) → IsIn x (y ∷ xs) × (test x ≡ true)) [
  | true ↦ λ e j. elim j [ inl is ↦ (inl is, subst (λ z. test z ≡ true) (sym is) e) | inr more ↦ let m = from_filter test x xs more in (inr m.0, m.1) ]
  | false ↦ λ e j. let m = from_filter test x xs j in (inr m.0, m.1)
] refl i

pub in_filter : {A : Type 0} (test : A → Bool) (x : A) (xs : List A) → IsIn x xs → test x ≡ true → IsIn x (filter test xs)
in_filter test x [] i t = elim i [ ]
in_filter test x (y ∷ xs) i t = elim (test y) as (λ b. test y ≡ b → IsIn x (cond b (y ∷ filter test xs) (filter test xs))) [
  | true ↦ λ e. elim i [ inl is ↦ inl is | inr more ↦ inr (in_filter test x xs more t) ]
  | false ↦ λ e. elim i [ inl is ↦ absurd (false≢true (sym e ∙ ap test (sym is) ∙ t)) | inr more ↦ in_filter test x xs more t ]
] refl

-- ---- numbers

pub in_range : (k n m : ℕ) → k ≤ m → m < k + n → IsIn m (range_with_len k n)
in_range k zero m l u = absurd (omega arith)
in_range k (suc n) m l u = elim (m == k) as (λ b. (m == k) ≡ b → IsIn m (range_with_len k (suc n))) [
  | true ↦ λ e. inl (eqb-true m k e)
  | false ↦ λ e. let other = eqb-false m k e in inr (in_range (k + 1) n m (omega arith) (omega arith))
] refl

pub from_range : (k n m : ℕ) → IsIn m (range_with_len k n) → (k ≤ m) × (m < k + n)
from_range k zero m i = elim i [ ]
from_range k (suc n) m (inl e) = (omega arith, omega arith)
from_range k (suc n) m (inr i) = let r = from_range (k + 1) n m i in (omega arith, omega arith)

pub from_below : (n m : ℕ) → IsIn m (below n) → m < n
from_below n m i = let r = from_range 0 n m i in omega arith

-- ---- tests

pub and_true : (a b : Bool) → (a && b) ≡ true → (a ≡ true) × (b ≡ true)
and_true false b e = absurd (false≢true e)
and_true true b e = (refl, e)

pub and_false : (a b : Bool) → (a && b) ≡ false → (a ≡ false) ⊎ (b ≡ false)
and_false true b e = inr e
and_false false b e = inl refl

pub or_true : (a b : Bool) → (a || b) ≡ true → (a ≡ true) ⊎ (b ≡ true)
or_true true b e = inl refl
or_true false b e = inr e

pub or_false : (a b : Bool) → (a || b) ≡ false → (a ≡ false) × (b ≡ false)
or_false true b e = absurd (false≢true (sym e))
or_false false b e = (refl, e)

pub or_left : (a b : Bool) → a ≡ true → (a || b) ≡ true
or_left true b e = refl
or_left false b e = absurd (false≢true e)

pub or_right : (a b : Bool) → b ≡ true → (a || b) ≡ true
or_right true b e = refl
or_right false b e = e

pub not_true : (v : Bool) → not v ≡ true → v ≡ false
not_true true e = absurd (false≢true e)
not_true false e = refl

pub or_mono : (a b a' b' : Bool) → (a ≡ true → a' ≡ true) → (b ≡ true → b' ≡ true) → (a || b) ≡ true → (a' || b') ≡ true
or_mono true b a' b' f g e = rw (f refl) refl
or_mono false b true b' f g e = refl
or_mono false b false b' f g e = g e

pub and_mono : (a b b' : Bool) → (b ≡ true → b' ≡ true) → (a && b) ≡ true → (a && b') ≡ true
and_mono true b b' f e = f e
and_mono false b b' f e = e

pub not_mono : (x y : Bool) → (x ≡ true → y ≡ true) → not y ≡ true → not x ≡ true
not_mono true y f e = absurd (false≢true (ap not (sym (f refl)) ∙ e))
not_mono false y f e = refl

-- some item passes the test
pub any_is : {A : Type 0} (test : A → Bool) (xs : List A) → list_any test xs ≡ true → (x : A) × IsIn x xs × (test x ≡ true)
any_is test [] e = absurd (false≢true e)
any_is test (x ∷ xs) e = elim (or_true (test x) (list_any test xs) e) [
  | inl a ↦ (x, inl refl, a)
  | inr b ↦ let m = any_is test xs b in (m.0, inr m.1, m.2)
]

pub is_any : {A : Type 0} (test : A → Bool) (x : A) (xs : List A) → IsIn x xs → test x ≡ true → list_any test xs ≡ true
is_any test x [] i t = elim i [ ]
is_any test x (y ∷ xs) (inl e) t = or_left (test y) (list_any test xs) (sym (ap test e) ∙ t)
is_any test x (y ∷ xs) (inr i) t = or_right (test y) (list_any test xs) (is_any test x xs i t)

-- an item of which not all passes fails
pub all_fails : {A : Type 0} (test : A → Bool) (xs : List A) → list_all test xs ≡ false → (x : A) × IsIn x xs × (test x ≡ false)
all_fails test [] e = absurd (false≢true (sym e))
all_fails test (x ∷ xs) e = elim (and_false (test x) (list_all test xs) e) [
  | inl a ↦ (x, inl refl, a)
  | inr b ↦ let m = all_fails test xs b in (m.0, inr m.1, m.2)
]

-- the first item that passes
pub find_is : {A : Type 0} (test : A → Bool) (xs : List A) (x : A) → find test xs ≡ Some x → IsIn x xs × (test x ≡ true)
find_is {A = A} test [] x e = absurd (none e)
  where
    none : None ≡ Some x → ⊥
    none h = cc
find_is {A = A} test (y ∷ ys) x e = elim (test y) as (λ v. test y ≡ v → cond v (Some y) (find test ys) ≡ Some x → IsIn x (y ∷ ys) × (test x ≡ true)) [
  | true ↦ λ t h. (inl (same y h), subst (λ z. test z ≡ true) (sym (same y h)) t)
  | false ↦ λ t h. let m = find_is test ys x h in (inr m.0, m.1)
] refl e
  where
    same : (y : A) → Some y ≡ Some x → x ≡ y
    same y h = cc

pub none_found : {A : Type 0} (test : A → Bool) (xs : List A) → ((x : A) → test x ≡ false) → find test xs ≡ None
none_found test [] h = refl
none_found test (x ∷ xs) h = ap (λ v. cond v (Some x) (find test xs)) (h x) ∙ none_found test xs h

pub find_none : {A : Type 0} (test : A → Bool) (xs : List A) → find test xs ≡ None → (x : A) → IsIn x xs → test x ≡ false
find_none {A = A} test [] e x i = elim i [ ]
find_none {A = A} test (y ∷ ys) e x i = elim (test y) as (λ v. test y ≡ v → cond v (Some y) (find test ys) ≡ None → test x ≡ false) [
  | true ↦ λ t h. absurd (some y h)
  | false ↦ λ t h. elim i [ inl is ↦ ap test is ∙ t | inr more ↦ find_none test ys h x more ]
] refl e
  where
    some : (y : A) → Some y ≡ None → ⊥
    some y h = cc

-- ---- tasks

pub same_task : (a b : Task) → is_task a b ≡ true → a ≡ b
same_task (Map _ _ _ _) (Map _ _ _ _) e = grind (arith, nat_tests)
same_task (Reduce _ _ _) (Reduce _ _ _) e = grind (arith, nat_tests)
same_task (Test _ _) (Test _ _) e = grind (arith, nat_tests)
same_task a b e = cc

pub task_itself : (a : Task) → is_task a a ≡ true
task_itself (Map _ _ _ _) = grind (arith, nat_tests)
task_itself (Reduce _ _ _) = grind (arith, nat_tests)
task_itself (Test _ _) = grind (arith, nat_tests)

pub is_listed : (t : Task) (ts : List Task) → list_any (is_task t) ts ≡ true → IsIn t ts
is_listed t ts e = let m = any_is (is_task t) ts e in subst (λ u. IsIn u ts) (sym (same_task t m.0 m.2)) m.1

pub listed_is : (t : Task) (ts : List Task) → IsIn t ts → list_any (is_task t) ts ≡ true
listed_is t ts i = is_any (is_task t) t ts i (task_itself t)
