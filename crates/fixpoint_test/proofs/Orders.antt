-- Records that a test of neighbours finds in order, and those that need no sort.
use Rattle.std.proofs.Common.{◌≡◌, suc, true, false, List, [], ◌∷◌, refl, sym, length, arith}
use Rattle.std.specs.declared.cmp.Ordering.{Ordering}
use Rattle.std.specs.declared.cmp.Ordering.TheVariants.{Less, Equal, Greater}
use Rattle.std.specs.Ordering.{is_gt, is_le, partial_le, as_partial_cmp}
use Rattle.std.specs.List.{AllByRecursion, AllAdjacentBelow}
use Rattle.std.proofs.lemmas.Cmp.{upto}
use native.Mathlib.Numerals.{unary_clauses}
use Rattle.hal_base.specs.declared.record.Record.{Record}
use Rattle.hal_base.specs.Order.{record_cmp}
use Rattle.hal_base.specs.Laws.{record_cmp_total}
use Rattle.hal_base.specs.Sorted.{Ascending, sorted}
use Rattle.hal_base.proofs.Strict.{sorted_same}

not_above : (r : Ordering) → is_le r ≡ true → is_gt r ≡ false
not_above Less h = refl
not_above Equal h = refl
not_above Greater h = cc

all_from : (x y : Record) (ys : List Record) → is_gt (record_cmp x y) ≡ false → AllByRecursion (λ z. is_gt (record_cmp y z) ≡ false) ys → AllByRecursion (λ z. is_gt (record_cmp x z) ≡ false) ys
all_from x y [] e a = tt
all_from x y (z ∷ zs) e a = (upto record_cmp_total x y z e a.0, all_from x y zs e a.1)

ascending : (rows : List Record) → AllAdjacentBelow (λ x y. partial_le (as_partial_cmp record_cmp) x y ≡ true) rows (length rows) → Ascending record_cmp rows
ascending [] s = tt
ascending (x ∷ []) s = (tt, tt)
ascending (x ∷ y ∷ ys) s =
    let e = not_above (record_cmp x y) (s 0 x (omega arith)) in
    let a = ascending (y ∷ ys) (λ k d l. simp unary_clauses (simp unary_clauses at (s (suc k) d (omega arith)))) in
    ((e, all_from x y ys e a.0), a)

-- a list whose neighbours are in order is its own sort
pub needs_no_sort : (rows : List Record) → AllAdjacentBelow (λ x y. partial_le (as_partial_cmp record_cmp) x y ≡ true) rows (length rows) → rows ≡ sorted record_cmp rows
needs_no_sort rows s = sym (sorted_same record_cmp rows (ascending rows s))
