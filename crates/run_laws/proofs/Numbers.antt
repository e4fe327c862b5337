-- Numbers in lists: which are among them, with one more and below a bound.
use Rattle.std.proofs.Common.{◌≡◌, ◌⊎◌, inl, inr, ℕ, ◌+◌, ◌<◌, Bool, true, false, List, [], ◌∷◌, refl, sym, subst, ◌∙◌, ◌==◌}
use Rattle.std.specs.Cmp.{ranks}
use Rattle.std.specs.List.{filter}
use Rattle.std.specs.Ordering.{MatchOrdering, nat_cmp}
use Rattle.std.specs.declared.cmp.Ordering.TheVariants.{Equal, Greater, Less}
use Rattle.std.proofs.lemmas.Bool.{eq-eqb, eqb-true, false_from_ne_true, false≢true}
use Rattle.hal_base.specs.Sorted.{by_order, joined}
use Rattle.replica_table.specs.Sets.{Ascend, among}
use Rattle.run_model.specs.Lists.{IsIn}
use Rattle.run_laws.proofs.Members.{any_is, in_filter, is_any}

pub is_among : (n : ℕ) (ns : List ℕ) → IsIn n ns → among n ns ≡ true
is_among n ns i = is_any (λ m. n == m) n ns i (eq-eqb n n refl)

pub in_among : (n : ℕ) (ns : List ℕ) → among n ns ≡ true → IsIn n ns
in_among n ns a = let m = any_is (λ m. n == m) ns a in subst (λ k. IsIn k ns) (sym (eqb-true n m.0 m.2)) m.1

pub ascend_under : (first end n : ℕ) (ns : List ℕ) → Ascend first end ns → IsIn n ns → n < end
ascend_under first end n [] a i = elim i [ ]
ascend_under first end n (m ∷ ns) a (inl e) = subst (λ k. k < end) (sym e) a.1
ascend_under first end n (m ∷ ns) a (inr i) = ascend_under (m + 1) end n ns a.2 i

-- ---- one more

from_joined : (k m : ℕ) (ns : List ℕ) → IsIn m (joined nat_cmp k ns) → (m ≡ k) ⊎ IsIn m ns
from_joined k m [] i = elim i [ inl e ↦ inl e | inr x ↦ elim x [ ] ]
from_joined k m (n ∷ ns) i = elim (nat_cmp k n) as (λ r. IsIn m (by_order r (k ∷ n ∷ ns) (n ∷ ns) (n ∷ joined nat_cmp k ns)) → (m ≡ k) ⊎ IsIn m (n ∷ ns)) [
  | Less ↦ λ j. elim j [ inl e ↦ inl e | inr x ↦ inr x ]
  | Equal ↦ λ j. inr j
  | Greater ↦ λ j. elim j [ inl e ↦ inr (inl e) | inr x ↦ elim (from_joined k m ns x) [ inl e ↦ inl e | inr y ↦ inr (inr y) ] ]
] i

in_joined : (k m : ℕ) (ns : List ℕ) → IsIn m ns → IsIn m (joined nat_cmp k ns)
in_joined k m [] i = elim i [ ]
in_joined k m (n ∷ ns) i = elim (nat_cmp k n) as (λ r. IsIn m (by_order r (k ∷ n ∷ ns) (n ∷ ns) (n ∷ joined nat_cmp k ns))) [
  | Less ↦ inr i
  | Equal ↦ i
  | Greater ↦ elim i [ inl e ↦ inl e | inr x ↦ inr (in_joined k m ns x) ]
]

there_joined : (k : ℕ) (ns : List ℕ) → IsIn k (joined nat_cmp k ns)
there_joined k [] = inl refl
there_joined k (n ∷ ns) = elim (nat_cmp k n) as (λ r. MatchOrdering r (k < n) (k ≡ n) (n < k) → IsIn k (by_order r (k ∷ n ∷ ns) (n ∷ ns) (n ∷ joined nat_cmp k ns))) [
  | Less ↦ λ o. inl refl
  | Equal ↦ λ o. inl o
  | Greater ↦ λ o. inr (there_joined k ns)
] (ranks k n)

pub with_among : (k m : ℕ) (ns : List ℕ) → among m (joined nat_cmp k ns) ≡ true → (m ≡ k) ⊎ (among m ns ≡ true)
with_among k m ns a = elim (from_joined k m ns (in_among m (joined nat_cmp k ns) a)) [ inl e ↦ inl e | inr i ↦ inr (is_among m ns i) ]

pub among_with : (k m : ℕ) (ns : List ℕ) → among m ns ≡ true → among m (joined nat_cmp k ns) ≡ true
among_with k m ns a = is_among m (joined nat_cmp k ns) (in_joined k m ns (in_among m ns a))

pub with_there : (k : ℕ) (ns : List ℕ) → among k (joined nat_cmp k ns) ≡ true
with_there k ns = is_among k (joined nat_cmp k ns) (there_joined k ns)

-- another number is among them as before
pub with_other : (k p : ℕ) (ns : List ℕ) → (p ≡ k → ⊥) → among p (joined nat_cmp k ns) ≡ among p ns
with_other k p ns d = elim (among p ns) as (λ v. among p ns ≡ v → among p (joined nat_cmp k ns) ≡ v) [
  | true ↦ λ e. among_with k p ns e
  | false ↦ λ e. false_from_ne_true (among p (joined nat_cmp k ns)) (λ t. go e (with_among k p ns t))
] refl
  where
    go : among p ns ≡ false → (p ≡ k) ⊎ (among p ns ≡ true) → ⊥
    go e (inl x) = d x
    go e (inr x) = false≢true (sym e ∙ x)

-- ---- some of them

pub among_left : (test : ℕ → Bool) (n : ℕ) (ns : List ℕ) → among n ns ≡ true → test n ≡ true → among n (filter test ns) ≡ true
among_left test n ns a t = is_among n (filter test ns) (in_filter test n ns (in_among n ns a) t)
