-- What a sort ensures, and the list in order.
use Rattle.std.proofs.Common.{◌≡◌, ℕ, suc, ◌+◌, ◌<◌, Bool, true, false, cond, List, [], ◌∷◌, ◌++◌, refl, sym, ap, ◌∙◌, map, arith}
use Rattle.std.specs.declared.cmp.Ordering.{Ordering}
use Rattle.std.specs.declared.cmp.Ordering.TheVariants.{Less, Equal, Greater}
use Rattle.std.specs.Ordering.{is_eq, is_gt, is_lt, ordering_reverse, eq_by_cmp}
use Rattle.std.specs.Cmp.{IsTotalOrder}
use Rattle.std.specs.List.{AllByRecursion, flat_map, sum_by}
use Rattle.std.specs.List.Sorted.{IsSorted, IsPermutation}
use Rattle.std.proofs.lemmas.Cmp.{tied_itself, alike_right, upto}
use Rattle.std.proofs.lemmas.List.Sorted.{sum_by-IsPermutation}
use Rattle.std.proofs.lemmas.List.Sums.{sum_by-cons}
use native.Mathlib.Numerals.{unary_clauses}
use Rattle.std.proofs.lemmas.Map.Lookups.{CmpEqualImpliesEq}
use Rattle.hal_base.specs.Sorted.{Ascending, placed, sorted}

abbrev pub one : Bool → ℕ
one b = cond b 1 0

turned : (r : Ordering) → is_lt r ≡ false → is_gt (ordering_reverse r) ≡ false
turned Less h = cc
turned Equal h = refl
turned Greater h = refl

back : (r : Ordering) → is_gt r ≡ true → is_gt (ordering_reverse r) ≡ false
back Less h = cc
back Equal h = cc
back Greater h = refl

tied : (r : Ordering) → is_gt r ≡ false → is_gt (ordering_reverse r) ≡ false → r ≡ Equal
tied Less h k = cc
tied Equal h k = refl
tied Greater h k = cc

module _ {K : Type 0} {R : K → K → Ordering} (o : IsTotalOrder R) where
  -- how often q stands in the list
  abbrev pub times : K → List K → ℕ
  times q [] = 0
  times q (x ∷ xs) = one (eq_by_cmp R q x) + times q xs

  times_is : (q : K) (xs : List K) → times q xs ≡ sum_by (λ x. one (eq_by_cmp R q x)) xs
  times_is q [] = refl
  times_is q (x ∷ xs) = omega (arith, times_is q xs, sum_by-cons (λ y. one (eq_by_cmp R q y)) x xs)

  all_from : (x y : K) (ys : List K) → is_gt (R x y) ≡ false → AllByRecursion (λ z. is_gt (R y z) ≡ false) ys → AllByRecursion (λ z. is_gt (R x z) ≡ false) ys
  all_from x y [] e a = tt
  all_from x y (z ∷ zs) e a = (upto o x y z e a.0, all_from x y zs e a.1)

  gt_from_lt : (x y : K) → is_lt (R y x) ≡ false → is_gt (R x y) ≡ false
  gt_from_lt x y h = ap is_gt (o.antisymm x y) ∙ turned (R y x) h

  abbrev Neighbours : List K → Type 0
  Neighbours [] = Unit {0}
  Neighbours (x ∷ []) = Unit {0}
  Neighbours (x ∷ y ∷ ys) = (is_gt (R x y) ≡ false) × Neighbours (y ∷ ys)

  neighbours : (xs : List K) → IsSorted R xs → Neighbours xs
  neighbours [] s = tt
  neighbours (x ∷ []) s = tt
  neighbours (x ∷ y ∷ ys) s = (gt_from_lt x y (s 0 x (omega arith) (omega arith)), neighbours (y ∷ ys) (λ k d l h. simp unary_clauses (simp unary_clauses at (s (suc k) d (omega arith) (omega arith)))))

  ascending : (xs : List K) → Neighbours xs → Ascending R xs
  ascending [] n = tt
  ascending (x ∷ []) n = (tt, tt)
  ascending (x ∷ y ∷ ys) n = let a = ascending (y ∷ ys) n.1 in ((n.0, all_from x y ys n.0 a.0), a)

  all_placed : (P : K → Type 0) (x : K) (xs : List K) → P x → AllByRecursion P xs → AllByRecursion P (placed R x xs)
  all_placed P x [] p a = (p, tt)
  all_placed P x (y ∷ ys) p a = elim (is_gt (R x y)) as (λ b. AllByRecursion P (cond b (y ∷ placed R x ys) (x ∷ y ∷ ys))) [ true ↦ (a.0, all_placed P x ys p a.1) | false ↦ (p, a) ]

  flipped : (x y : K) → is_gt (R x y) ≡ true → is_gt (R y x) ≡ false
  flipped x y h = ap is_gt (o.antisymm y x) ∙ back (R x y) h

  ascending_placed : (x : K) (xs : List K) → Ascending R xs → Ascending R (placed R x xs)
  ascending_placed x [] a = (tt, tt)
  ascending_placed x (y ∷ ys) a =
      elim (is_gt (R x y)) as (λ b. is_gt (R x y) ≡ b → Ascending R (cond b (y ∷ placed R x ys) (x ∷ y ∷ ys))) [
        | true ↦ λ e. (all_placed (λ z. is_gt (R y z) ≡ false) x ys (flipped x y e) a.0, ascending_placed x ys a.1)
        | false ↦ λ e. ((e, all_from x y ys e a.0), a)
      ] refl

  pub ascending_sorted : (xs : List K) → Ascending R (sorted R xs)
  ascending_sorted [] = tt
  ascending_sorted (x ∷ xs) = ascending_placed x (sorted R xs) (ascending_sorted xs)

  times_placed : (q x : K) (xs : List K) → times q (placed R x xs) ≡ one (eq_by_cmp R q x) + times q xs
  times_placed q x [] = refl
  times_placed q x (y ∷ ys) =
      elim (is_gt (R x y)) as (λ b. times q (cond b (y ∷ placed R x ys) (x ∷ y ∷ ys)) ≡ one (eq_by_cmp R q x) + (one (eq_by_cmp R q y) + times q ys)) [
        | true ↦ omega (arith, times_placed q x ys)
        | false ↦ refl
      ]

  pub times_sorted : (q : K) (xs : List K) → times q (sorted R xs) ≡ times q xs
  times_sorted q [] = refl
  times_sorted q (x ∷ xs) = omega (arith, times_placed q x (sorted R xs), times_sorted q xs)

  -- an item that stands in an ascending list is not below its first
  not_below : (q : K) (ys : List K) (y : K) → AllByRecursion (λ z. is_gt (R y z) ≡ false) ys → 0 < times q ys → is_gt (R y q) ≡ false
  not_below q [] y a l = absurd (omega arith)
  not_below q (z ∷ zs) y a l =
      elim (R q z) as (λ r. R q z ≡ r → 0 < one (is_eq r) + times q zs → is_gt (R y q) ≡ false) [
        | Less ↦ λ e m. not_below q zs y a.1 (omega arith)
        | Equal ↦ λ e m. ap is_gt (alike_right o q z y e) ∙ a.0
        | Greater ↦ λ e m. not_below q zs y a.1 (omega arith)
      ] refl l

  first_upto : (q y : K) (ys : List K) → AllByRecursion (λ z. is_gt (R y z) ≡ false) ys → 0 < times q (y ∷ ys) → is_gt (R y q) ≡ false
  first_upto q y ys a l = not_below q (y ∷ ys) y (ap is_gt (tied_itself o y), a) l

  here_once : (x : K) (xs : List K) → 0 < times x (x ∷ xs)
  here_once x xs = let e : one (eq_by_cmp R x x) ≡ 1 = ap (λ r. one (is_eq r)) (tied_itself o x) in omega arith

  -- ascending lists with the same items as often are equal
  pub same_ascending : CmpEqualImpliesEq R → (xs ys : List K) → Ascending R xs → Ascending R ys → ((q : K) → times q xs ≡ times q ys) → xs ≡ ys
  same_ascending exact [] [] a b h = refl
  same_ascending exact [] (y ∷ ys) a b h = let l = here_once y ys in absurd (omega (arith, h y))
  same_ascending exact (x ∷ xs) [] a b h = let l = here_once x xs in absurd (omega (arith, h x))
  same_ascending exact (x ∷ xs) (y ∷ ys) a b h =
      let l = here_once x xs in
      let m = here_once y ys in
      let p : is_gt (R y x) ≡ false = first_upto x y ys b.0 (omega (arith, h x)) in
      let q : is_gt (R x y) ≡ false = first_upto y x xs a.0 (omega (arith, h y)) in
      let e : x ≡ y = exact x y (tied (R x y) q (ap is_gt (sym (o.antisymm y x)) ∙ p)) in
      let k : (z : K) → times z (x ∷ xs) ≡ times z (x ∷ ys) = λ z. h z ∙ ap (λ w. one (eq_by_cmp R z w) + times z ys) (sym e) in
      let t : xs ≡ ys = same_ascending exact xs ys a.1 b.1 (λ z. omega (arith, k z)) in cc

  pub sort_is_sorted : CmpEqualImpliesEq R → (xs ys : List K) → IsPermutation xs ys → IsSorted R ys → ys ≡ sorted R xs
  sort_is_sorted exact xs ys p s =
      same_ascending exact ys (sorted R xs) (ascending ys (neighbours ys s)) (ascending_sorted xs)
      (λ q. times_is q ys ∙ sum_by-IsPermutation (λ x. one (eq_by_cmp R q x)) xs ys p ∙ sym (times_is q xs) ∙ sym (times_sorted q xs))

  -- ---- lists one after another

  times_both : (q : K) (xs ys : List K) → times q (xs ++ ys) ≡ times q xs + times q ys
  times_both q [] ys = omega arith
  times_both q (x ∷ xs) ys = omega (arith, times_both q xs ys)

  times_each : (q : K) (xss : List (List K)) → times q (flat_map (λ xs. xs) (map (sorted R) xss)) ≡ times q (flat_map (λ xs. xs) xss)
  times_each q [] = refl
  times_each q (xs ∷ xss) =
      times_both q (sorted R xs) (flat_map (λ ys. ys) (map (sorted R) xss))
      ∙ omega (arith, times_sorted q xs, times_each q xss)
      ∙ sym (times_both q xs (flat_map (λ ys. ys) xss))

  -- lists that are sorted beforehand, made one, are in order what the lists are
  pub sorted_together : CmpEqualImpliesEq R → (xss : List (List K)) → sorted R (flat_map (λ xs. xs) (map (sorted R) xss)) ≡ sorted R (flat_map (λ xs. xs) xss)
  sorted_together exact xss =
      same_ascending exact (sorted R (flat_map (λ xs. xs) (map (sorted R) xss))) (sorted R (flat_map (λ xs. xs) xss))
      (ascending_sorted (flat_map (λ xs. xs) (map (sorted R) xss))) (ascending_sorted (flat_map (λ xs. xs) xss))
      (λ q. times_sorted q (flat_map (λ xs. xs) (map (sorted R) xss)) ∙ times_each q xss ∙ sym (times_sorted q (flat_map (λ xs. xs) xss)))

  -- what holds of each item holds of each of the list in order
  pub all_sorted : (P : K → Type 0) (xs : List K) → AllByRecursion P xs → AllByRecursion P (sorted R xs)
  all_sorted P [] a = tt
  all_sorted P (x ∷ xs) a = all_placed P x (sorted R xs) a.0 (all_sorted P xs a.1)
