-- Which bytes a number is read from.
use Rattle.std.proofs.Common.{◌≡◌, ℕ, ◌≤◌, ◌&&◌, ℤ, pos, negsuc, true, false, List, None, Some, Result, Ok, Err, FitsSigned, refl, sym, ap, ◌∙◌, arith, bytes_eq, nat_le, w64}
use lib.IntN.{nat_abs}
use Rattle.std.specs.Int.{FitsUnsignedBits}
use Rattle.std.specs.Result.{OkIff, result_ok}
use Rattle.std.specs.Fmt.{decimal, signed_decimal}
use Rattle.std.specs.Str.Parse.{AllDigits, digits_value}
use Rattle.std.proofs.lemmas.Bool.{and_parts, le-leb, leb-true}
use Rattle.std.proofs.lemmas.Fmt.{digits_value-decimal, signed_decimal_injective}
use Rattle.std.proofs.lemmas.Slice.Eq.{bytes_eq-Decides}
use Rattle.std.proofs.lemmas.Str.Parse.{IsNumeralModel, numerals_by_value, tells_digits}
use Rattle.schedule_text.specs.Words.{number_of}

own : IsNumeralModel (AllDigits 10) (digits_value 10)
own = numerals_by_value (AllDigits 10) tells_digits

-- a number is read from its spelling
pub number_again : (bytes : List ℕ) (n : ℕ) → n ≤ 4294967295 → bytes ≡ decimal n → number_of bytes ≡ Some n
unfolding number_of
number_again bytes n l s =
    let e : digits_value 10 bytes ≡ n = ap (digits_value 10) s ∙ digits_value-decimal own n (omega arith) in
    rw (e, (bytes_eq-Decides bytes (decimal n)).1 s, le-leb n 4294967295 l)

-- and from nothing else
pub number_none : (bytes : List ℕ) → ((n : ℕ) → n ≤ 4294967295 → bytes ≡ decimal n → ⊥) → number_of bytes ≡ None
unfolding number_of
number_none bytes none =
    let n = digits_value 10 bytes in
    let test = bytes_eq bytes (decimal n) && nat_le n 4294967295 in
    elim test as (λ t. test ≡ t → number_of bytes ≡ None) [
      | true ↦ λ t.
          let parts = and_parts (bytes_eq bytes (decimal n)) (nat_le n 4294967295) t in
          absurd (none n (leb-true n 4294967295 parts.1) ((bytes_eq-Decides bytes (decimal n)).0 parts.0))
      | false ↦ λ t. rw t
    ] refl

-- what has another value is none of these
no_other : (bytes : List ℕ) (z : ℤ) → FitsSigned w64 z → bytes ≡ signed_decimal z → ((n : ℕ) → n ≤ 4294967295 → z ≡ pos n → ⊥) → number_of bytes ≡ None
no_other bytes z f s other =
    let l = f.sfits in
    number_none bytes (λ n m e. other n m (signed_decimal_injective z (pos n) l (omega arith) (sym s ∙ e)))

-- a number with a sign is one of these where it fits
pub fitting : {E : Type 0} (bytes : List ℕ) (z : ℤ) (r : Result ℕ E) → FitsSigned w64 z → bytes ≡ signed_decimal z → OkIff r (FitsUnsignedBits 32 z) (nat_abs z) → result_ok r ≡ number_of bytes
fitting bytes (pos m) (Ok n) f s o = ap Some o.1 ∙ sym (number_again bytes m (omega (arith, o.0)) s)
fitting bytes (negsuc m) (Ok n) f s o = absurd o.0
fitting bytes (pos m) (Err e) f s o = sym (no_other bytes (pos m) f s (λ n l e. let same : m ≡ n = cc in absurd (o (omega arith))))
fitting bytes (negsuc m) (Err e) f s o = sym (no_other bytes (negsuc m) f s (λ n l e. cc))

-- what is no number with a sign is none of these
pub unread : (bytes : List ℕ) → ((z : ℤ) → FitsSigned w64 z → bytes ≡ signed_decimal z → ⊥) → None ≡ number_of bytes
unread bytes none = sym (number_none bytes (λ n l e. none (pos n) (record { sfits = omega arith }) e))
