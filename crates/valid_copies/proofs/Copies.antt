-- What holds of each copy, when copies are added and taken away.
use Rattle.std.proofs.Common.{◌≡◌, ℕ, Bool, true, false, cond, nat_eq, nat_lt, ◌&&◌, List, [], ◌∷◌, Some, refl, sym, subst}
use Rattle.std.specs.List.{AllByRecursion, filter}
use Rattle.std.proofs.lemmas.Bool.{eqb-true}
use Rattle.node_names.specs.declared.digest.Digest.{Digest}
use Rattle.node_names.specs.declared.name.Name.{Name}
use Rattle.replica_table.proofs.Names.{same_by}
use Rattle.replica_table.specs.Copies.{Copy, among_its_own, held, is_at, is_name, with_copy}

-- what holds of those that are kept
pub all_kept : {A : Type 0} (P Q : A → Type 0) (p : A → Bool) (xs : List A) → ((x : A) → p x ≡ true → P x → Q x) → AllByRecursion P xs → AllByRecursion Q (filter p xs)
all_kept P Q p [] f a = tt
all_kept P Q p (x ∷ xs) f a = elim (p x) as (λ t. p x ≡ t → AllByRecursion Q (cond t (x ∷ filter p xs) (filter p xs))) [
  | true ↦ λ e. (f x e a.0, all_kept P Q p xs f a.1)
  | false ↦ λ e. all_kept P Q p xs f a.1
] refl

all_among : (P : Copy → Type 0) (new : Copy) (copies : List Copy) → P new → AllByRecursion P copies → AllByRecursion P (among_its_own new copies)
all_among P new [] p a = (p, tt)
all_among P new (copy ∷ copies) p a = elim (is_name new.name copy.name && nat_lt copy.node new.node) as (λ t. AllByRecursion P (cond t (copy ∷ among_its_own new copies) (cond (is_at new.name new.node copy) (new ∷ copies) (new ∷ copy ∷ copies)))) [
  | true ↦ (a.0, all_among P new copies p a.1)
  | false ↦ elim (is_at new.name new.node copy) as (λ t. AllByRecursion P (cond t (new ∷ copies) (new ∷ copy ∷ copies))) [ true ↦ (p, a.1) | false ↦ (p, a) ]
]

pub all_with_copy : (P : Copy → Type 0) (new : Copy) (copies : List Copy) → P new → AllByRecursion P copies → AllByRecursion P (with_copy new copies)
all_with_copy P new [] p a = (p, tt)
all_with_copy P new (copy ∷ copies) p a = elim (is_name new.name copy.name) as (λ t. AllByRecursion P (cond t (among_its_own new (copy ∷ copies)) (copy ∷ with_copy new copies))) [
  | true ↦ all_among P new (copy ∷ copies) p a
  | false ↦ (a.0, all_with_copy P new copies p a.1)
]

pub and_true : (a b : Bool) → (a && b) ≡ true → (a ≡ true) × (b ≡ true)
and_true true b e = (refl, e)
and_true false b e = cc

-- what holds of each copy holds of the one that is held
pub held_has : (P : Name → ℕ → Digest → Type 0) (copies : List Copy) (name : Name) (node : ℕ) (digest : Digest) → AllByRecursion (λ (c : Copy). P c.name c.node c.kept) copies → held name node copies ≡ Some digest → P name node digest
held_has P [] name node digest a = λ e. cc
held_has P (c ∷ cs) name node digest a = elim (is_at name node c) as (λ t. is_at name node c ≡ t → (cond t (Some c.kept) (held name node cs)) ≡ Some digest → P name node digest) [
  | true ↦ λ i e.
      let two = and_true (is_name name c.name) (nat_eq node c.node) i in
      let n : c.name ≡ name = sym (same_by name c.name two.0) in
      let m : c.node ≡ node = sym (eqb-true node c.node two.1) in
      let d : c.kept ≡ digest = cc in
      subst (λ x. P name node x) d (subst (λ x. P name x c.kept) m (subst (λ x. P x c.node c.kept) n a.0))
  | false ↦ λ i e. held_has P cs name node digest a.1 e
] refl
