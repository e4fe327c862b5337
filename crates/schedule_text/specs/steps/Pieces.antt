-- The pieces of a line, for the contracts of private steps alone.
use Rattle.std.specs.Prelude.{ℕ, ◌==◌, List, [], ◌∷◌, Option, None, Some, Bool, false}
use Rattle.schedule_text.specs.Lines.{pieces_of}

-- the pieces of what is left of a line, if something is
abbrev pub pieces_left : Option (List ℕ) → List (List ℕ)
pieces_left None = []
pieces_left (Some line) = pieces_of line

-- a space is the first byte
abbrev pub begins_with_space : List ℕ → Bool
begins_with_space [] = false
begins_with_space (b ∷ bytes) = b == 32
