-- What is a text, and how two are joined.
use Rattle.std.proofs.Common.{◌≡◌, ℕ, suc, ◌+◌, ◌-◌, ◌<◌, ◌≤◌, ◌^◌, ℤ, pos, negsuc, List, [], ◌∷◌, ◌++◌, FitsSigned, take, length, min, sym, ap, ◌∙◌, arith, w64}
use Rattle.std.specs.Fmt.{decimal, signed_decimal}
use Rattle.std.specs.List.{AllByRecursion}
use Rattle.std.specs.Str.Parse.{AllDigits}
use Rattle.std.proofs.Math.Seq.{take-append-add}
use Rattle.std.proofs.lemmas.Fmt.{decimal_is_IsNumeral}
use Rattle.std.proofs.lemmas.List.{take_min}
use Rattle.std.proofs.lemmas.Str.Parse.{digit_from_value}
use Rattle.hal_base.specs.Text.{IsText}
use Rattle.operations.specs.Applied.{joined}

-- printable bytes
abbrev pub Printable : List ℕ → Type 0
Printable bytes = AllByRecursion (λ byte. (32 ≤ byte) × (byte ≤ 126)) bytes

digits_printable : (ds : List ℕ) → AllDigits 10 ds → Printable ds
digits_printable [] d = tt
digits_printable (c ∷ ds) d = let k = digit_from_value c d.0 in ((omega arith, omega arith), digits_printable ds d.1)

decimal_printable : (n : ℕ) → n < 2 ^ 64 → Printable (decimal n)
decimal_printable n l = digits_printable (decimal n) (decimal_is_IsNumeral n l).0.1

signed_printable : (n : ℤ) → FitsSigned w64 n → Printable (signed_decimal n)
signed_printable (pos n) f = let l = f.sfits in decimal_printable n (omega arith)
signed_printable (negsuc n) f = let l = f.sfits in ((omega arith, omega arith), decimal_printable (suc n) (omega arith))

-- the spelling of a number is a text
pub spelling_is_text : (n : ℤ) → FitsSigned w64 n → length (signed_decimal n) ≤ 40 → IsText (signed_decimal n)
spelling_is_text n f l = (omega arith, signed_printable n f)

-- what there is room for, after the first text
pub joined_is : (a b : List ℕ) → length a ≤ 255 → joined a b ≡ a ++ take (min (length b) (255 - length a)) b
joined_is a b l =
    let room = 255 - length a in
    let e : 255 ≡ length a + room = omega arith in
    let m : min room (length b) ≡ min (length b) room = omega arith in
    ap (λ n. take n (a ++ b)) e ∙ take-append-add a b room ∙ ap (λ xs. a ++ xs) (sym (take_min room b) ∙ ap (λ n. take n b) m)
