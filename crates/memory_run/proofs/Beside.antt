-- Two lists, item beside item.
use Rattle.std.proofs.Common.{◌≡◌, ℕ, zero, suc, ◌+◌, ◌<◌, List, [], ◌∷◌, subst, length, get_or, arith}
use Rattle.std.proofs.Math.ListN.{set}
use Rattle.std.specs.List.{AllByRecursion}
use Rattle.memory_run.specs.steps.Inputs.{AllBeside}

module _ {A B : Type 0} (P : ℕ → A → B → Type 0) where
  -- one item of the second list changes
  pub one_set : (s k number : ℕ) (xs : List A) (ys : List B) (y y' : B) → k < length ys → number ≡ s + k → ((x : A) → P number x (get_or ys k y) → P number x y') → AllBeside P s xs ys → AllBeside P s xs (set ys k y')
  one_set s k number xs [] y y' l n f a = absurd (omega arith)
  one_set s k number [] (z ∷ ys) y y' l n f a = absurd a
  one_set s zero number (x ∷ xs) (z ∷ ys) y y' l n f a =
      let e : number ≡ s = omega arith in
      let g : P s x z → P s x y' = subst (λ i. P i x z → P i x y') e (f x) in
      (g a.0, a.1)
  one_set s (suc k) number (x ∷ xs) (z ∷ ys) y y' l n f a = (a.0, one_set (s + 1) k number xs ys y y' (omega arith) (omega arith) f a.1)

-- what holds of all items holds of them where one changes
pub all_set : {B : Type 0} (P : B → Type 0) (ys : List B) (k : ℕ) (y : B) → P y → AllByRecursion P ys → AllByRecursion P (set ys k y)
all_set P [] k y p a = tt
all_set P (z ∷ ys) zero y p a = (p, a.1)
all_set P (z ∷ ys) (suc k) y p a = (a.0, all_set P ys k y p a.1)
