-- Records in order, by their neighbours.
use Rattle.std.proofs.Common.{◌≡◌, ℕ, zero, suc, ◌+◌, ◌<◌, Bool, true, false, ◌&&◌, not, get_or, List, [], ◌∷◌, None, Some, refl, length, arith}
use Rattle.std.specs.declared.cmp.Ordering.{Ordering}
use Rattle.std.specs.declared.cmp.Ordering.TheVariants.{Less, Equal, Greater}
use Rattle.std.specs.Ordering.{is_gt, is_le, partial_le, as_partial_cmp}
use Rattle.std.specs.List.{AllByRecursion, AllAdjacentBelow, IsAllAdjacentAnswer}
use Rattle.std.proofs.lemmas.Cmp.{upto}
use native.Mathlib.Numerals.{unary_clauses}
use Rattle.hal_base.specs.declared.record.Record.{Record}
use Rattle.hal_base.specs.Order.{record_cmp}
use Rattle.hal_base.specs.Laws.{record_cmp_total}
use Rattle.hal_base.specs.Sorted.{Ascending}
use Rattle.partition_shuffle.specs.steps.Sections.{in_order}

both : (a b : Bool) → (a && b) ≡ true → (a ≡ true) × (b ≡ true)
both true b e = (refl, e)
both false b e = cc

not_true : (a : Bool) → not a ≡ true → a ≡ false
not_true true e = cc
not_true false e = refl

all_from : (x y : Record) (ys : List Record) → is_gt (record_cmp x y) ≡ false → AllByRecursion (λ z. is_gt (record_cmp y z) ≡ false) ys → AllByRecursion (λ z. is_gt (record_cmp x z) ≡ false) ys
all_from x y [] e a = tt
all_from x y (z ∷ zs) e a = (upto record_cmp_total x y z e a.0, all_from x y zs e a.1)

ascends : (x : Record) (rows : List Record) → in_order (Some x) rows ≡ true → AllByRecursion (λ y. is_gt (record_cmp x y) ≡ false) rows × Ascending record_cmp rows
ascends x [] e = (tt, tt)
ascends x (y ∷ ys) e =
    let two = both (not (is_gt (record_cmp x y))) (in_order (Some y) ys) e in
    let first = not_true (is_gt (record_cmp x y)) two.0 in
    let others = ascends y ys two.1 in
    ((first, all_from x y ys first others.0), others)

-- where each record is not below the one before it, none is greater than a later one
pub ascending : (rows : List Record) → in_order None rows ≡ true → Ascending record_cmp rows
ascending [] e = tt
ascending (x ∷ rows) e = ascends x rows e

descends : (x : Record) (rows : List Record) → Ascending record_cmp (x ∷ rows) → in_order (Some x) rows ≡ true
descends x [] a = refl
descends x (y ∷ ys) a = rw (a.0.0, descends y ys a.1) refl

-- and the other way round
pub neighbours : (rows : List Record) → Ascending record_cmp rows → in_order None rows ≡ true
neighbours [] a = refl
neighbours (x ∷ rows) a = descends x rows a

-- ---- what a test of neighbours says

abbrev le : Record → Record → Bool
le x y = partial_le (as_partial_cmp record_cmp) x y

kept : (r : Ordering) → is_le r ≡ not (is_gt r)
kept Less = refl
kept Equal = refl
kept Greater = refl

all_kept : (x : Record) (rows : List Record) → AllAdjacentBelow (λ x y. le x y ≡ true) (x ∷ rows) (length (x ∷ rows)) → in_order (Some x) rows ≡ true
all_kept x [] s = refl
all_kept x (y ∷ ys) s =
    let first : not (is_gt (record_cmp x y)) ≡ true = rw (← kept (record_cmp x y)) (s 0 x (omega arith)) in
    rw (first, all_kept y ys (λ k d l. simp unary_clauses (simp unary_clauses at (s (suc k) d (omega arith))))) refl

abbrev Falls : List Record → ℕ → Type 0
Falls rows k = (d : Record) → le (get_or rows k d) (get_or rows (k + 1) d) ≡ false

one_falls : (k : ℕ) (x : Record) (rows : List Record) → k < length rows → Falls (x ∷ rows) k → in_order (Some x) rows ≡ false
one_falls k x [] l f = absurd (omega arith)
one_falls zero x (y ∷ ys) l f =
    let first : not (is_gt (record_cmp x y)) ≡ false = rw (← kept (record_cmp x y)) (f x) in
    rw first refl
one_falls (suc k) x (y ∷ ys) l f = rw (one_falls k y ys (omega arith) (λ d. simp unary_clauses (simp unary_clauses at (f d)))) (never (not (is_gt (record_cmp x y))))
  where
    never : (a : Bool) → (a && false) ≡ false
    never true = refl
    never false = refl

-- records of which a test finds each two neighbours in order
pub sorted_in_order : (rows : List Record) → IsAllAdjacentAnswer (λ x y b. le x y ≡ b) rows true → in_order None rows ≡ true
sorted_in_order [] s = refl
sorted_in_order (x ∷ rows) s = all_kept x rows s

-- records of which it finds two neighbours that are not
pub unsorted_in_no_order : (rows : List Record) → IsAllAdjacentAnswer (λ x y b. le x y ≡ b) rows false → in_order None rows ≡ false
unsorted_in_no_order [] s = absurd (omega (arith, s.1))
unsorted_in_no_order (x ∷ rows) s = one_falls s.0 x rows (omega (arith, s.1)) s.2
