-- What may be missing.
use Rattle.std.specs.Prelude.{List, [], ◌∷◌, Option, None, Some, ℕ}

infixl 10 ◌>>=◌
-- goes on with what is there
abbrev pub ◌>>=◌ : {A B : Type 0} → Option A → (A → Option B) → Option B
None >>= f = None
(Some a) >>= f = f a

-- all of these, where none is missing
abbrev pub all_of : {A : Type 0} → List (Option A) → Option (List A)
all_of [] = Some []
all_of (a ∷ as_) = do
  first ← a
  others ← all_of as_
  Some (first ∷ others)

-- the list, or nothing
abbrev pub or_none : {A : Type 0} → Option (List A) → List A
or_none None = []
or_none (Some as_) = as_

-- the number, or 0
abbrev pub or_zero : Option ℕ → ℕ
or_zero None = 0
or_zero (Some n) = n
