-- A text is ASCII, and so valid UTF-8.
use Rattle.std.proofs.Common.{ℕ, ◌≤◌, List, [], ◌∷◌, arith}
use Rattle.std.specs.List.{AllByRecursion}
use Rattle.std.specs.Str.{IsAscii, IsUtf8}
use Rattle.std.proofs.lemmas.Str.{IsUtf8-from_ascii}
use Rattle.std.proofs.lemmas.Str.Ascii.{IsAscii-nil, IsAscii-cons}
use Rattle.hal_base.specs.Text.{IsText}

ascii : (bytes : List ℕ) → AllByRecursion (λ byte. (32 ≤ byte) × (byte ≤ 126)) bytes → IsAscii bytes
ascii [] a = IsAscii-nil
ascii (b ∷ bytes) a = let l : b ≤ 126 = a.0.1 in IsAscii-cons b bytes (omega arith) (ascii bytes a.1)

pub text_is_utf8 : (bytes : List ℕ) → IsText bytes → IsUtf8 bytes
text_is_utf8 bytes t = IsUtf8-from_ascii bytes (ascii bytes t.1)
