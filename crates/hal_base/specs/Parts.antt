-- The part that a key belongs to where a program names no partition.
use Rattle.std.specs.Prelude.{ℕ, ◌+◌, ◌*◌, ◌%◌, pos, unsigned_abs, List, [], ◌∷◌}
use Rattle.std.specs.Int.{int_rem_euclid}
use Rattle.hal_base.specs.declared.value.Value.{Value}
use Rattle.hal_base.specs.declared.value.Value.TheVariants.{Int, Text}

-- the number that the bytes make of h: it is taken times 31 for each, and the byte added, modulo 2 ^ 32
abbrev pub text_number : ℕ → List ℕ → ℕ
text_number h [] = h
text_number h (b ∷ bytes) = text_number ((31 * h + b) % 4294967296) bytes

-- a number modulo the number of parts, never negative; of a text, its number modulo that
abbrev pub default_part : Value → ℕ → ℕ
default_part (Int n) parts = unsigned_abs (int_rem_euclid n (pos parts))
default_part (Text bytes) parts = text_number 0 bytes % parts
