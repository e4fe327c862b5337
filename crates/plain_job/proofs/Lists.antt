-- What holds of all items of lists.
use Rattle.std.proofs.Common.{ℕ, zero, suc, ◌≡◌, Bool, true, false, cond, List, [], ◌∷◌, ◌++◌, map, Some, subst, slice_get}
use Rattle.std.specs.List.{AllByRecursion, filter, flat_map}
use Rattle.std.proofs.lemmas.Option.{none-some}

pub all_both : {A : Type 0} (P : A → Type 0) (xs ys : List A) → AllByRecursion P xs → AllByRecursion P ys → AllByRecursion P (xs ++ ys)
all_both P [] ys a b = b
all_both P (x ∷ xs) ys a b = (a.0, all_both P xs ys a.1 b)

pub all_weaker : {A : Type 0} (P Q : A → Type 0) (xs : List A) → ((x : A) → P x → Q x) → AllByRecursion P xs → AllByRecursion Q xs
all_weaker P Q [] f all = tt
all_weaker P Q (x ∷ xs) f all = (f x all.0, all_weaker P Q xs f all.1)

pub all_filtered : {A : Type 0} (P : A → Type 0) (chosen : A → Bool) (xs : List A) → AllByRecursion P xs → AllByRecursion P (filter chosen xs)
all_filtered P chosen [] a = tt
all_filtered P chosen (x ∷ xs) a = elim (chosen x) as (λ b. AllByRecursion P (cond b (x ∷ filter chosen xs) (filter chosen xs))) [ true ↦ (a.0, all_filtered P chosen xs a.1) | false ↦ all_filtered P chosen xs a.1 ]

pub all_mapped : {A B : Type 0} (P : A → Type 0) (Q : B → Type 0) (f : A → B) (xs : List A) → ((x : A) → P x → Q (f x)) → AllByRecursion P xs → AllByRecursion Q (map f xs)
all_mapped P Q f [] h a = tt
all_mapped P Q f (x ∷ xs) h a = (h x a.0, all_mapped P Q f xs h a.1)

pub all_flat : {A B : Type 0} (P : A → Type 0) (Q : B → Type 0) (f : A → List B) (xs : List A) → ((x : A) → P x → AllByRecursion Q (f x)) → AllByRecursion P xs → AllByRecursion Q (flat_map f xs)
all_flat P Q f [] h a = tt
all_flat P Q f (x ∷ xs) h a = all_both Q (f x) (flat_map f xs) (h x a.0) (all_flat P Q f xs h a.1)

-- what holds of all items holds of each
pub all_at : {A : Type 0} (P : A → Type 0) (xs : List A) (n : ℕ) (x : A) → AllByRecursion P xs → slice_get xs n ≡ Some x → P x
all_at P [] n x all e = absurd (none-some x e)
all_at P (y ∷ ys) zero x all e = subst P (same e) all.0
  where
    same : Some y ≡ Some x → y ≡ x
    same e = cc
all_at P (y ∷ ys) (suc n) x all e = all_at P ys n x all.1 e
