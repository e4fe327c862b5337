-- The one spelling of a number, and what `parse` makes of it.
use Rattle.std.proofs.Common.{◌≡◌, ◌≢◌, ℕ, zero, suc, ◌<◌, ◌≤◌, ◌^◌, ℤ, pos, negsuc, true, false, nat_eq, List, [], ◌∷◌, Result, Ok, Err, refl, sym, ap, ◌∙◌, subst, length, get_or, arith}
use Rattle.std.proofs.Math.IntN.{neg_ℤ}
use Rattle.std.specs.Int.{w64}
use Rattle.std.specs.Prelude.{FitsSigned}
use Rattle.std.specs.Fmt.{decimal, signed_decimal}
use Rattle.std.specs.Result.{OkIff}
use Rattle.std.specs.Str.Parse.{AllDigits, ParsesSigned, digits_value}
use Rattle.std.proofs.lemmas.Bool.{eqb-false, eqb-true}
use Rattle.std.proofs.lemmas.Fmt.{decimal_digit, decimal-digits_value, first_decimal, parse-signed_decimal}
use Rattle.std.proofs.lemmas.Str.Parse.{IsNumeralModel, numerals_by_value, tells_digits, parse_signed_minus, parse_signed_plain}
use Rattle.hal_base.specs.steps.Numbers.{canonical_front}
use Rattle.hal_base.proofs.Spellings.{above}

own : IsNumeralModel (AllDigits 10) (digits_value 10)
own = numerals_by_value (AllDigits 10) tells_digits

no_plus : (b : ℕ) (bs : List ℕ) → canonical_front (b ∷ bs) ≡ true → b ≢ 43
no_plus b [] f e = let g = rw e at f in cc
no_plus b (c ∷ cs) f e = let g = rw e at f in cc

zero_alone : (b : ℕ) (bs : List ℕ) → canonical_front (b ∷ bs) ≡ true → b ≡ 48 → length (b ∷ bs) ≡ 1
zero_alone b [] f e = refl
zero_alone b (c ∷ cs) f e = let g = rw e at f in cc

zero_after : (c : ℕ) (cs : List ℕ) → canonical_front (45 ∷ c ∷ cs) ≡ true → c ≢ 48
zero_after c cs f e = let g = rw e at f in cc

negative : (v : ℕ) (ds : List ℕ) → decimal v ≡ ds → get_or ds 0 0 ≢ 48 → 45 ∷ ds ≡ signed_decimal (neg_ℤ (pos v))
negative zero ds e n = absurd (n (ap (λ bs. get_or bs 0 0) (sym e) ∙ ap (λ bs. get_or bs 0 0) (decimal_digit 0 (omega arith))))
negative (suc v) ds e n = ap (λ bs. 45 ∷ bs) (sym e)

after_minus : (bs : List ℕ) (n : ℤ) → canonical_front (45 ∷ bs) ≡ true → ParsesSigned {E = ℕ} w64 10 (45 ∷ bs) (Ok n) → 45 ∷ bs ≡ signed_decimal n
after_minus [] n f p = let q : OkIff {E = ℕ} (Ok n) (AllDigits 10 [] × (0 < length {A = ℕ} []) × (digits_value 10 [] ≤ 2 ^ 63)) (neg_ℤ (pos (digits_value 10 []))) = parse_signed_minus own {E = ℕ} w64 (45 ∷ []) (Ok n) p refl in absurd (omega (arith, q.0.1))
after_minus (c ∷ cs) n f p =
    let q : OkIff {E = ℕ} (Ok n) (AllDigits 10 (c ∷ cs) × (0 < length (c ∷ cs)) × (digits_value 10 (c ∷ cs) ≤ 2 ^ 63)) (neg_ℤ (pos (digits_value 10 (c ∷ cs)))) = parse_signed_minus own {E = ℕ} w64 (45 ∷ c ∷ cs) (Ok n) p refl in
    let z = zero_after c cs f in
    let d = decimal-digits_value own (c ∷ cs) q.0.0 q.0.1 (λ e. absurd (z e)) (omega (arith, q.0.2)) in
    negative (digits_value 10 (c ∷ cs)) (c ∷ cs) d z ∙ ap signed_decimal (sym q.1)

without_sign : (b : ℕ) (bs : List ℕ) (n : ℤ) → b ≢ 45 → canonical_front (b ∷ bs) ≡ true → ParsesSigned {E = ℕ} w64 10 (b ∷ bs) (Ok n) → b ∷ bs ≡ signed_decimal n
without_sign b bs n m f p =
    let q : OkIff {E = ℕ} (Ok n) (AllDigits 10 (b ∷ bs) × (0 < length (b ∷ bs)) × (digits_value 10 (b ∷ bs) < 2 ^ 63)) (pos (digits_value 10 (b ∷ bs))) = parse_signed_plain own {E = ℕ} w64 (b ∷ bs) (Ok n) p (no_plus b bs f) m in
    let d = decimal-digits_value own (b ∷ bs) q.0.0 q.0.1 (zero_alone b bs f) (omega (arith, q.0.2)) in
    sym d ∙ ap signed_decimal (sym q.1)

-- what is parsed from a canonical front is spelled so
pub spelled : (bs : List ℕ) (n : ℤ) → canonical_front bs ≡ true → ParsesSigned {E = ℕ} w64 10 bs (Ok n) → bs ≡ signed_decimal n
spelled [] n f p = let q : OkIff {E = ℕ} (Ok n) (AllDigits 10 [] × (0 < length {A = ℕ} []) × (digits_value 10 [] < 2 ^ 63)) (pos (digits_value 10 [])) = parse_signed_plain own {E = ℕ} w64 [] (Ok n) p (λ (e : 0 ≡ 43). absurd (omega arith)) (λ (e : 0 ≡ 45). absurd (omega arith)) in absurd (omega (arith, q.0.1))
spelled (b ∷ bs) n f p =
    elim (nat_eq b 45) as (λ t. nat_eq b 45 ≡ t → b ∷ bs ≡ signed_decimal n) [
      | true ↦ λ t.
          let e : b ≡ 45 = eqb-true b 45 t in
          let f' = subst (λ (x : ℕ). canonical_front (x ∷ bs) ≡ true) e f in
          let p' = subst (λ (x : ℕ). ParsesSigned {E = ℕ} w64 10 (x ∷ bs) (Ok n)) e p in
          ap (λ x. x ∷ bs) e ∙ after_minus bs n f' p'
      | false ↦ λ t. without_sign b bs n (eqb-false b 45 t) f p
    ] refl

front_ok : (bs : List ℕ) → 48 < get_or bs 0 0 → canonical_front bs ≡ true
front_ok [] l = absurd (omega arith)
front_ok (b ∷ []) l = rw (above b 43 (omega arith))
front_ok (b ∷ c ∷ cs) l = rw (above b 48 (omega arith), above b 43 (omega arith), above b 45 (omega arith))

minus_ok : (ds : List ℕ) → 48 < get_or ds 0 0 → canonical_front (45 ∷ ds) ≡ true
minus_ok [] l = refl
minus_ok (c ∷ cs) l = rw (above c 48 (omega arith))

-- every spelling has a canonical front
pub canonical : (n : ℤ) → FitsSigned w64 n → canonical_front (signed_decimal n) ≡ true
canonical (pos zero) h = ap canonical_front (decimal_digit 0 (omega arith))
canonical (pos (suc n)) h = let f = h.sfits in front_ok (decimal (suc n)) (first_decimal (suc n) (omega arith) (omega arith))
canonical (negsuc n) h = let f = h.sfits in minus_ok (decimal (suc n)) (first_decimal (suc n) (omega arith) (omega arith))

-- every spelling is parsed
pub parsed : (bs : List ℕ) (n : ℤ) → FitsSigned w64 n → bs ≡ signed_decimal n → ParsesSigned {E = ℕ} w64 10 bs (Err 0) → ⊥
parsed bs n h s p = let r : Result ℤ ℕ = Err 0 in let q : r ≡ Ok n = parse-signed_decimal w64 n bs r h h.sfits s p in cc
