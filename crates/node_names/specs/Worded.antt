-- A word and some numbers, as one text.
use Rattle.std.specs.Prelude.{ℕ, ◌<◌, ◌^◌, List, ◌∷◌, map, decimal}
use Rattle.std.specs.List.{AllByRecursion, join_with_byte}

-- the word and the numbers in decimal, with this byte between
abbrev pub worded : ℕ → List ℕ → List ℕ → List ℕ
worded between word numbers = join_with_byte between (word ∷ map decimal numbers)

-- each number has 32 bits
abbrev pub AreSmall : List ℕ → Type 0
AreSmall numbers = AllByRecursion (λ n. n < 2 ^ 32) numbers
