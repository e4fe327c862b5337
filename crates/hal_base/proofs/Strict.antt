-- Lists in an order: `distinct` and `sorted`.
use Rattle.std.proofs.Common.{◌≡◌, Bool, true, false, ◌||◌, List, [], ◌∷◌, refl, sym, ap, ◌∙◌}
use Rattle.std.specs.declared.cmp.Ordering.{Ordering}
use Rattle.std.specs.declared.cmp.Ordering.TheVariants.{Less, Equal, Greater}
use Rattle.std.specs.Ordering.{is_eq, ordering_reverse, eq_by_cmp}
use Rattle.std.specs.Cmp.{IsTotalOrder}
use Rattle.std.specs.List.{AllByRecursion, list_any}
use Rattle.std.proofs.lemmas.Cmp.{tied_itself, alike_right}
use Rattle.std.proofs.lemmas.Map.Lookups.{CmpEqualImpliesEq}
use Rattle.hal_base.specs.Sorted.{Ascending, by_order, sorted, joined, distinct}

pub or_swap : (a b c : Bool) → (a || (b || c)) ≡ (b || (a || c))
or_swap true true c = refl
or_swap true false c = refl
or_swap false b c = refl

or_twice : (a b : Bool) → (a || b) ≡ (a || (a || b))
or_twice true b = refl
or_twice false b = refl

pub or_split : (a b c : Bool) → ((a || b) || c) ≡ (a || (b || c))
or_split true b c = refl
or_split false b c = refl

pub sorted_same : {K : Type 0} (R : K → K → Ordering) (xs : List K) → Ascending R xs → sorted R xs ≡ xs
sorted_same R [] a = refl
sorted_same R (x ∷ []) a = refl
sorted_same R (x ∷ y ∷ ys) a = rw (sorted_same R (y ∷ ys) a.1, a.0.0)

module _ {K : Type 0} {R : K → K → Ordering} (o : IsTotalOrder R) where
  abbrev pub Strict : List K → Type 0
  Strict [] = Unit {0}
  Strict (x ∷ xs) = AllByRecursion (λ y. R x y ≡ Less) xs × Strict xs

  pub all_joined : (P : K → Type 0) (x : K) (xs : List K) → P x → AllByRecursion P xs → AllByRecursion P (joined R x xs)
  all_joined P x [] p a = (p, tt)
  all_joined P x (y ∷ ys) p a =
      elim (R x y) as (λ r. AllByRecursion P (by_order r (x ∷ y ∷ ys) (y ∷ ys) (y ∷ joined R x ys))) [
        | Less ↦ (p, a)
        | Equal ↦ a
        | Greater ↦ (a.0, all_joined P x ys p a.1)
      ]

  pub all_distinct : (P : K → Type 0) (xs : List K) → AllByRecursion P xs → AllByRecursion P (distinct R xs)
  all_distinct P [] a = tt
  all_distinct P (x ∷ xs) a = all_joined P x (distinct R xs) a.0 (all_distinct P xs a.1)

  all_above : (x y : K) (ys : List K) → R x y ≡ Less → AllByRecursion (λ z. R y z ≡ Less) ys → AllByRecursion (λ z. R x z ≡ Less) ys
  all_above x y [] e a = tt
  all_above x y (z ∷ zs) e a = (o.trans x y z e a.0, all_above x y zs e a.1)

  strict_joined : (x : K) (xs : List K) → Strict xs → Strict (joined R x xs)
  strict_joined x [] s = (tt, tt)
  strict_joined x (y ∷ ys) s =
      elim (R x y) as (λ r. R x y ≡ r → Strict (by_order r (x ∷ y ∷ ys) (y ∷ ys) (y ∷ joined R x ys))) [
        | Less ↦ λ e. ((e, all_above x y ys e s.0), s)
        | Equal ↦ λ e. s
        | Greater ↦ λ e. (all_joined (λ z. R y z ≡ Less) x ys (o.antisymm y x ∙ ap ordering_reverse e) s.0, strict_joined x ys s.1)
      ] refl

  pub strict_distinct : (xs : List K) → Strict (distinct R xs)
  strict_distinct [] = tt
  strict_distinct (x ∷ xs) = strict_joined x (distinct R xs) (strict_distinct xs)

  any_joined : (q x : K) (xs : List K) → list_any (eq_by_cmp R q) (joined R x xs) ≡ (eq_by_cmp R q x || list_any (eq_by_cmp R q) xs)
  any_joined q x [] = refl
  any_joined q x (y ∷ ys) =
      elim (R x y) as (λ r. R x y ≡ r → list_any (eq_by_cmp R q) (by_order r (x ∷ y ∷ ys) (y ∷ ys) (y ∷ joined R x ys)) ≡ (eq_by_cmp R q x || (eq_by_cmp R q y || list_any (eq_by_cmp R q) ys))) [
        | Less ↦ λ e. refl
        | Equal ↦ λ e. or_twice (is_eq (R q y)) (list_any (eq_by_cmp R q) ys) ∙ ap (λ r. is_eq r || (eq_by_cmp R q y || list_any (eq_by_cmp R q) ys)) (sym (alike_right o x y q e))
        | Greater ↦ λ e. ap (λ b. eq_by_cmp R q y || b) (any_joined q x ys) ∙ or_swap (eq_by_cmp R q y) (eq_by_cmp R q x) (list_any (eq_by_cmp R q) ys)
      ] refl

  pub any_distinct : (q : K) (xs : List K) → list_any (eq_by_cmp R q) (distinct R xs) ≡ list_any (eq_by_cmp R q) xs
  any_distinct q [] = refl
  any_distinct q (x ∷ xs) = any_joined q x (distinct R xs) ∙ ap (λ b. eq_by_cmp R q x || b) (any_distinct q xs)

  none_above : (x : K) (ys : List K) → AllByRecursion (λ y. R x y ≡ Less) ys → list_any (eq_by_cmp R x) ys ≡ false
  none_above x [] a = refl
  none_above x (y ∷ ys) a = rw (a.0, none_above x ys a.1)

  -- an item below all of a list does not stand in it
  clash : (x : K) (xs : List K) (y : K) (ys : List K) → R x y ≡ Less → AllByRecursion (λ z. R y z ≡ Less) ys → list_any (eq_by_cmp R x) (x ∷ xs) ≡ list_any (eq_by_cmp R x) (y ∷ ys) → ⊥
  clash x xs y ys e a h =
      let l : list_any (eq_by_cmp R x) (x ∷ xs) ≡ true = rw (tied_itself o x) in
      let m : list_any (eq_by_cmp R x) (y ∷ ys) ≡ false = rw (e, none_above x ys (all_above x y ys e a)) in
      let c : true ≡ false = sym l ∙ h ∙ m in cc

  tails : (x : K) (xs ys : List K) → CmpEqualImpliesEq R → AllByRecursion (λ z. R x z ≡ Less) xs → AllByRecursion (λ z. R x z ≡ Less) ys → (q : K) → (eq_by_cmp R q x || list_any (eq_by_cmp R q) xs) ≡ (eq_by_cmp R q x || list_any (eq_by_cmp R q) ys) → list_any (eq_by_cmp R q) xs ≡ list_any (eq_by_cmp R q) ys
  tails x xs ys exact a b q =
      elim (R q x) as (λ r. R q x ≡ r → (is_eq r || list_any (eq_by_cmp R q) xs) ≡ (is_eq r || list_any (eq_by_cmp R q) ys) → list_any (eq_by_cmp R q) xs ≡ list_any (eq_by_cmp R q) ys) [
        | Less ↦ λ e h. h
        | Equal ↦ λ e h. rw (exact q x e) (none_above x xs a ∙ sym (none_above x ys b))
        | Greater ↦ λ e h. h
      ] refl

  -- strictly ascending lists with the same items are equal
  pub same_strict : CmpEqualImpliesEq R → (a b : List K) → Strict a → Strict b → ((q : K) → list_any (eq_by_cmp R q) a ≡ list_any (eq_by_cmp R q) b) → a ≡ b
  same_strict exact [] [] s t h = refl
  same_strict exact [] (y ∷ ys) s t h =
      let l : list_any (eq_by_cmp R y) (y ∷ ys) ≡ true = rw (tied_itself o y) in
      let c : false ≡ true = h y ∙ l in cc
  same_strict exact (x ∷ xs) [] s t h =
      let l : list_any (eq_by_cmp R x) (x ∷ xs) ≡ true = rw (tied_itself o x) in
      let c : false ≡ true = sym (h x) ∙ l in cc
  same_strict exact (x ∷ xs) (y ∷ ys) s t h =
      elim (R x y) as (λ r. R x y ≡ r → x ∷ xs ≡ y ∷ ys) [
        | Less ↦ λ e. absurd (clash x xs y ys e t.0 (h x))
        | Equal ↦ λ e.
            let same : x ≡ y = exact x y e in
            let u : AllByRecursion (λ z. R x z ≡ Less) ys = rw same t.0 in
            let k : (q : K) → (eq_by_cmp R q x || list_any (eq_by_cmp R q) xs) ≡ (eq_by_cmp R q x || list_any (eq_by_cmp R q) ys) = λ q. h q ∙ ap (λ z. eq_by_cmp R q z || list_any (eq_by_cmp R q) ys) (sym same) in
            let rest : xs ≡ ys = same_strict exact xs ys s.1 t.1 (λ q. tails x xs ys exact s.0 u q (k q)) in cc
        | Greater ↦ λ e. absurd (clash y ys x xs (o.antisymm y x ∙ ap ordering_reverse e) s.0 (sym (h y)))
      ] refl
