-- The place of a name among names, and the first of some items that has a name.
use Rattle.std.specs.Prelude.{ℕ, suc, cond, List, [], ◌∷◌, Option, None, Some}
use Rattle.std.specs.Str.{bytes_eq}

-- at which place of a list the name stands first, behind so many
abbrev pub place_behind : ℕ → List ℕ → List (List ℕ) → Option ℕ
place_behind n name [] = None
place_behind n name (other ∷ names) = cond (bytes_eq name other) (Some n) (place_behind (suc n) name names)

-- at which place of a list the name stands first, from 0
abbrev pub place_of : List ℕ → List (List ℕ) → Option ℕ
place_of name names = place_behind 0 name names

-- the first of some items that has this name
abbrev pub named : {A : Type 0} → (A → List ℕ) → List ℕ → List A → Option A
named name_of name [] = None
named name_of name (item ∷ items) = cond (bytes_eq name (name_of item)) (Some item) (named name_of name items)
