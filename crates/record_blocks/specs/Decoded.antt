-- What was decoded, or that there is nothing to decode.
use Rattle.std.specs.Prelude.{Option, None, Some}

-- what was decoded has P, or nothing has it
abbrev pub Decoded : {A : Type 0} → (A → Type 0) → Option A → Type 0
Decoded P None = (a : _) → P a → ⊥
Decoded P (Some a) = P a
