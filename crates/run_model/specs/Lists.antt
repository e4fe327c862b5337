-- What the definitions of the cluster take from lists.
use Rattle.std.specs.Prelude.{◌≡◌, ◌⊎◌, ℕ, Bool, List, [], ◌∷◌, Option, length, slice_get, ◌%◌}
use Rattle.std.specs.List.{filter, range_with_len}

-- an item stands in a list
abbrev pub IsIn : {A : Type 0} → A → List A → Type 0
IsIn x [] = ⊥
IsIn x (y ∷ ys) = (x ≡ y) ⊎ IsIn x ys

-- how many items pass the test
abbrev pub number_of : {A : Type 0} → (A → Bool) → List A → ℕ
number_of test xs = length (filter test xs)

-- the numbers below n
abbrev pub below : ℕ → List ℕ
below n = range_with_len 0 n

-- the k-th item, where the items are counted round and round
abbrev pub in_turn : ℕ → List ℕ → Option ℕ
in_turn k ns = slice_get ns (k % length ns)
