-- What went on to its end went right at each step.
use Rattle.std.proofs.Common.{◌≡◌, Ok, Err, Result, refl}
use Rattle.type_checker.specs.Checked.{◌>>=◌, ◌>>◌}

-- what follows on what was found
pub bind_ok : {A B E : Type 0} (r : Result A E) (f : A → Result B E) (y : B) → (r >>= f) ≡ Ok y → (x : A) × (r ≡ Ok x) × (f x ≡ Ok y)
bind_ok (Ok x) f y e = (x, refl, e)
bind_ok (Err fault) f y e = absurd (no e)
  where
    no : Err fault ≡ Ok y → ⊥
    no e = cc

-- what follows where all was right
pub then_ok : {A B E : Type 0} (r : Result A E) (next : Result B E) (y : B) → (r >> next) ≡ Ok y → (x : A) × (r ≡ Ok x) × (next ≡ Ok y)
then_ok (Ok x) next y e = (x, refl, e)
then_ok (Err fault) next y e = absurd (no e)
  where
    no : Err fault ≡ Ok y → ⊥
    no e = cc
