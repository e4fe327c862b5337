-- Which bytes a number is read from.
use Rattle.std.proofs.Common.{◌≡◌, ◌≢◌, ℕ, zero, suc, ◌<◌, ◌≤◌, ◌&&◌, ◌^◌, ℤ, pos, negsuc, true, false, List, [], ◌∷◌, Option, None, Some, FitsSigned, refl, ap, ◌∙◌, subst, get_or, arith, bytes_eq, w64}
use Rattle.std.specs.Fmt.{decimal, signed_decimal}
use Rattle.std.specs.Str.Parse.{AllDigits, digits_value}
use Rattle.std.proofs.lemmas.Bool.{and_parts, lt-ltb, ltb-true, ne_eqb}
use Rattle.std.proofs.lemmas.Fmt.{decimal_digit, digits_value-decimal, first_decimal}
use Rattle.std.proofs.lemmas.Slice.Eq.{bytes_eq-Decides}
use Rattle.std.proofs.lemmas.Str.Parse.{IsNumeralModel, numerals_by_value, tells_digits}
use Rattle.program_tokens.specs.steps.Lexing.{digits_read, is_int, number_of}

own : IsNumeralModel (AllDigits 10) (digits_value 10)
own = numerals_by_value (AllDigits 10) tells_digits

-- digits with no `-` come to their value
read_plain : (ds : List ℕ) → get_or ds 0 0 ≢ 45 → digits_read ds ≡ pos (digits_value 10 ds)
read_plain [] n = refl
read_plain (b ∷ ds) n = rw (ne_eqb b 45 n)

-- a number begins in a digit
first_of_decimal : (n : ℕ) → n < 2 ^ 63 → 48 ≤ get_or (decimal n) 0 0
first_of_decimal zero l = rw (decimal_digit 0 (omega arith)) (omega arith)
first_of_decimal (suc n) l = omega (arith, first_decimal (suc n) (omega arith) (omega arith))

-- the digits of a number come to it
read_again : (n : ℤ) → FitsSigned w64 n → digits_read (signed_decimal n) ≡ n
read_again (pos n) f =
    let l = f.sfits in
    let d = first_of_decimal n (omega arith) in
    read_plain (decimal n) (λ e. absurd (omega arith)) ∙ ap pos (digits_value-decimal own n (omega arith))
read_again (negsuc n) f = let l = f.sfits in rw (digits_value-decimal own (suc n) (omega arith))

-- the test of 64 bits
fits_is_int : (n : ℤ) → FitsSigned w64 n → is_int n ≡ true
fits_is_int (pos n) f = let l = f.sfits in lt-ltb n (2 ^ 63) (omega arith)
fits_is_int (negsuc n) f = let l = f.sfits in lt-ltb n (2 ^ 63) (omega arith)

int_fits : (n : ℤ) → is_int n ≡ true → FitsSigned w64 n
int_fits (pos n) e = let l = ltb-true n (2 ^ 63) e in record { sfits = omega arith }
int_fits (negsuc n) e = let l = ltb-true n (2 ^ 63) e in record { sfits = omega arith }

-- a number is read from its spelling
pub number_again : (bytes : List ℕ) (n : ℤ) → FitsSigned w64 n → bytes ≡ signed_decimal n → number_of bytes ≡ Some n
unfolding number_of
number_again bytes n f s =
    let e : digits_read bytes ≡ n = ap digits_read s ∙ read_again n f in
    rw (e, fits_is_int n f, (bytes_eq-Decides bytes (signed_decimal n)).1 s)

-- and from nothing else
pub number_spelled : (bytes : List ℕ) (n : ℤ) → number_of bytes ≡ Some n → FitsSigned w64 n × (bytes ≡ signed_decimal n)
unfolding number_of
number_spelled bytes n e =
    let read = digits_read bytes in
    let test = is_int read && bytes_eq bytes (signed_decimal read) in
    elim test as (λ t. test ≡ t → FitsSigned w64 n × (bytes ≡ signed_decimal n)) [
      | true ↦ λ t.
          let parts = and_parts (is_int read) (bytes_eq bytes (signed_decimal read)) t in
          let s : Some read ≡ Some n = rw t at e in
          let same : read ≡ n = cc in
          (subst (FitsSigned w64) same (int_fits read parts.0), (bytes_eq-Decides bytes (signed_decimal read)).0 parts.1 ∙ ap signed_decimal same)
      | false ↦ λ t. let s : ◌≡◌ {A = Option ℤ} None (Some n) = rw t at e in cc
    ] refl

-- what no number is spelled as is no number
pub number_none : (bytes : List ℕ) → ((n : ℤ) → FitsSigned w64 n → bytes ≡ signed_decimal n → ⊥) → number_of bytes ≡ None
number_none bytes none =
    elim (number_of bytes) as (λ o. number_of bytes ≡ o → o ≡ None) [
      | None ↦ λ e. refl
      | Some n ↦ λ e. let s = number_spelled bytes n e in absurd (none n s.0 s.1)
    ] refl
