-- The number that a text is the spelling of.
use Rattle.std.proofs.Common.{◌≡◌, ℕ, zero, suc, ◌<◌, ◌≤◌, ◌^◌, ℤ, pos, negsuc, true, false, cond, List, [], ◌∷◌, Option, None, Some, IfSome, IfNone, FitsSigned, refl, ap, ◌∙◌, get_or, arith, bytes_eq, w64}
use Rattle.std.specs.Option.{unwrap_or}
use Rattle.std.specs.Fmt.{decimal, signed_decimal}
use Rattle.std.specs.Str.Parse.{AllDigits, digits_value, signed_digits_value}
use Rattle.std.proofs.lemmas.Bool.{ne_eqb}
use Rattle.std.proofs.lemmas.Fmt.{decimal_digit, digits_value-decimal, first_decimal}
use Rattle.std.proofs.lemmas.Slice.Eq.{bytes_eq-Decides}
use Rattle.std.proofs.lemmas.Str.Parse.{IsNumeralModel, numerals_by_value, tells_digits}
use Rattle.operations.specs.Applied.{number_in, saturated, written}

own : IsNumeralModel (AllDigits 10) (digits_value 10)
own = numerals_by_value (AllDigits 10) tells_digits

-- digits with no sign come to their value
plain : (ds : List ℕ) → 48 ≤ get_or ds 0 0 → signed_digits_value 10 ds ≡ pos (digits_value 10 ds)
plain [] l = absurd (omega arith)
plain (b ∷ ds) l = rw (ne_eqb b 45 (λ e. absurd (omega arith)), ne_eqb b 43 (λ e. absurd (omega arith)))

first_of_decimal : (n : ℕ) → n < 2 ^ 63 → 48 ≤ get_or (decimal n) 0 0
first_of_decimal zero l = rw (decimal_digit 0 (omega arith)) (omega arith)
first_of_decimal (suc n) l = omega (arith, first_decimal (suc n) (omega arith) (omega arith))

read_again : (n : ℤ) → FitsSigned w64 n → signed_digits_value 10 (signed_decimal n) ≡ n
read_again (pos n) f =
    let l = f.sfits in
    plain (decimal n) (first_of_decimal n (omega arith)) ∙ ap pos (digits_value-decimal own n (omega arith))
read_again (negsuc n) f = let l = f.sfits in rw (digits_value-decimal own (suc n) (omega arith))

saturated_is : (n : ℤ) → FitsSigned w64 n → saturated n ≡ n
saturated_is (pos n) f = let l = f.sfits in ap pos (omega arith)
saturated_is (negsuc n) f = let l = f.sfits in ap negsuc (omega arith)

pub saturated_fits : (n : ℤ) → FitsSigned w64 (saturated n)
saturated_fits (pos n) = record { sfits = omega arith }
saturated_fits (negsuc n) = record { sfits = omega arith }

-- a number is in its spelling
number_found : (bytes : List ℕ) (n : ℤ) → FitsSigned w64 n → bytes ≡ signed_decimal n → n ≡ number_in bytes
number_found bytes n f s =
    let e : written bytes ≡ n = ap written s ∙ ap saturated (read_again n f) ∙ saturated_is n f in
    rw (e, (bytes_eq-Decides bytes (signed_decimal n)).1 s)

-- and what is no spelling counts as 0
number_none : (bytes : List ℕ) → ((n : ℤ) → FitsSigned w64 n → bytes ≡ signed_decimal n → ⊥) → pos 0 ≡ number_in bytes
number_none bytes none =
    elim (bytes_eq bytes (signed_decimal (written bytes))) as (λ t. bytes_eq bytes (signed_decimal (written bytes)) ≡ t → pos 0 ≡ cond t (written bytes) (pos 0)) [
      | true ↦ λ t. absurd (none (written bytes) (saturated_fits (signed_digits_value 10 bytes)) ((bytes_eq-Decides bytes (signed_decimal (written bytes))).0 t))
      | false ↦ λ t. refl
    ] refl

-- what was read, or 0
pub read_is : (bytes : List ℕ) (read : Option ℤ) → FitsSigned w64 (unwrap_or read (pos 0)) → IfSome read (λ n. bytes ≡ signed_decimal n) → IfNone read ((n : ℤ) → FitsSigned w64 n → bytes ≡ signed_decimal n → ⊥) → unwrap_or read (pos 0) ≡ number_in bytes
read_is bytes (Some n) f found only = number_found bytes n f found
read_is bytes None f found only = number_none bytes only
