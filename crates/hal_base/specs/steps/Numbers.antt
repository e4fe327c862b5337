-- The front of a number's spelling.
use Rattle.std.specs.Prelude.{ℕ, ◌==◌, Bool, true, not, ◌&&◌, ◌||◌, List, [], ◌∷◌}

-- no digit 0 and no sign at the front but those of a number's one spelling
abbrev pub canonical_front : List ℕ → Bool
canonical_front [] = true
canonical_front (b ∷ []) = not (b == 43)
canonical_front (b ∷ c ∷ bytes) = not (b == 48 || b == 43 || (b == 45 && c == 48))
