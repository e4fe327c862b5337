-- The bytes of a token's spelling.
use Rattle.std.proofs.Common.{◌≡◌, ℕ, suc, ◌<◌, ◌≤◌, ◌||◌, ℤ, pos, negsuc, true, false, nat_eq, List, [], ◌∷◌, ◌++◌, FitsSigned, refl, sym, ap, ◌∙◌, length, length-append, arith, bytes_eq, w64, ⊎_elim, true≢false}
use Rattle.std.specs.Char.{is_ascii_digit}
use Rattle.std.specs.Fmt.{decimal, signed_decimal}
use Rattle.std.specs.List.{AllByRecursion, list_all, list_any}
use Rattle.std.proofs.lemmas.Bool.{and_parts, leb-true, ne_eqb, or_cases}
use Rattle.hal_base.specs.Text.{IsText}
use Rattle.program_tokens.specs.declared.token.Lexeme.{Lexeme}
use Rattle.program_tokens.specs.declared.token.Lexeme.TheVariants.{Plain, Int, Quoted, Bad, End}
use Rattle.program_tokens.specs.Tokens.{IsSpelled, StandsBefore, escaped, from_token, is_blank, line_ends, marks, spelling}
use Rattle.program_tokens.specs.Words.{is_word}
use Rattle.program_tokens.proofs.Bytes.{AreDigits, decimal_is_digits, digit_range, marks_each, word_has, word_is_text}

-- the first byte is neither a blank nor that of a comment
abbrev pub BeginsWell : List ℕ → Type 0
BeginsWell [] = ⊥
BeginsWell (b ∷ bytes) = (is_blank b ≡ false) × (nat_eq b 35 ≡ false)

-- no byte is a control
abbrev pub NoControl : List ℕ → Type 0
NoControl bytes = AllByRecursion (λ b. 32 ≤ b) bytes

-- what the bytes of a spelling are like
pub record IsGood (bytes : List ℕ) : Type 0 where
  pub begins : BeginsWell bytes
  pub high : NoControl bytes

-- a byte above `#` begins well
high_begins : (b : ℕ) → 36 ≤ b → (is_blank b ≡ false) × (nat_eq b 35 ≡ false)
high_begins b l = (rw (ne_eqb b 32 (λ e. omega arith), ne_eqb b 9 (λ e. omega arith), ne_eqb b 10 (λ e. omega arith), ne_eqb b 13 (λ e. omega arith)), ne_eqb b 35 (λ e. omega arith))

text_high : (bytes : List ℕ) → AllByRecursion (λ byte. (32 ≤ byte) × (byte ≤ 126)) bytes → NoControl bytes
text_high [] p = tt
text_high (b ∷ bytes) p = (p.0.0, text_high bytes p.1)

word_good : (word : List ℕ) → is_word word ≡ true → IsGood word
word_good [] w = absurd (true≢false (sym w))
word_good (b ∷ word) w =
    let h = word_has (b ∷ word) w in
    let is : IsText (b ∷ word) = word_is_text (b ∷ word) w in
    let low : 97 ≤ b = leb-true 97 b (and_parts _ _ h.lower).0 in
    record { begins = high_begins b (omega arith); high = text_high (b ∷ word) is.1 }

mark_good : (word : List ℕ) → list_any (bytes_eq word) marks ≡ true → IsGood word
mark_good word m =
    let one = λ (b : ℕ) (begins : (is_blank b ≡ false) × (nat_eq b 35 ≡ false)) (l : 32 ≤ b). let g : IsGood (b ∷ []) = record { begins = begins; high = (l, tt) } in g in
    let arrow : IsGood (45 ∷ 62 ∷ []) = record { begins = (refl, refl); high = (omega arith, (omega arith, tt)) } in
    marks_each IsGood word (one 40 (refl, refl) (omega arith)) (one 41 (refl, refl) (omega arith)) (one 123 (refl, refl) (omega arith)) (one 125 (refl, refl) (omega arith)) (one 44 (refl, refl) (omega arith)) (one 59 (refl, refl) (omega arith)) (one 58 (refl, refl) (omega arith)) (one 61 (refl, refl) (omega arith)) arrow m

digits_high : (bytes : List ℕ) → list_all is_ascii_digit bytes ≡ true → NoControl bytes
digits_high [] e = tt
digits_high (b ∷ bytes) e =
    let s = and_parts (is_ascii_digit b) (list_all is_ascii_digit bytes) e in
    let low : 48 ≤ b = (digit_range b s.0).0 in
    (omega arith, digits_high bytes s.1)

digits_good : (bytes : List ℕ) → AreDigits bytes → IsGood bytes
digits_good [] d = absurd (d.some refl)
digits_good (b ∷ bytes) d =
    let s = and_parts (is_ascii_digit b) (list_all is_ascii_digit bytes) d.digits in
    let low : 48 ≤ b = (digit_range b s.0).0 in
    record { begins = high_begins b (omega arith); high = digits_high (b ∷ bytes) d.digits }

number_good : (n : ℤ) → FitsSigned w64 n → IsGood (signed_decimal n)
number_good (pos n) f = let l = f.sfits in digits_good (decimal n) (decimal_is_digits n (omega arith))
number_good (negsuc n) f =
    let l = f.sfits in
    let d = decimal_is_digits (suc n) (omega arith) in
    record { begins = (refl, refl); high = (omega arith, digits_high (decimal (suc n)) d.digits) }

escaped_high : (text : List ℕ) → AllByRecursion (λ byte. (32 ≤ byte) × (byte ≤ 126)) text → NoControl (escaped text ++ 34 ∷ [])
escaped_high [] p = (omega arith, tt)
escaped_high (b ∷ text) p =
    let special = nat_eq b 34 || nat_eq b 92 in
    elim special as (λ t. special ≡ t → NoControl (escaped (b ∷ text) ++ 34 ∷ [])) [
      | true ↦ λ t. rw t (omega arith, (p.0.0, escaped_high text p.1))
      | false ↦ λ t. rw t (p.0.0, escaped_high text p.1)
    ] refl

-- a spelling begins in no blank and no comment, and has no control
pub spelling_good : (lexeme : Lexeme) → IsSpelled lexeme → IsGood (spelling lexeme)
spelling_good (Plain word) s = ⊎_elim (word_good word) (mark_good word) (or_cases (is_word word) (list_any (bytes_eq word) marks) s)
spelling_good (Int n) s = number_good n s
spelling_good (Quoted text) s = let is : IsText text = s in record { begins = (refl, refl); high = (omega arith, escaped_high text is.1) }
spelling_good Bad s = absurd s
spelling_good End s = absurd s

-- nothing is skipped before such bytes
pub nothing_skipped : (bytes rest : List ℕ) → BeginsWell bytes → from_token (bytes ++ rest) ≡ bytes ++ rest
nothing_skipped [] rest b = absurd b
nothing_skipped (b ∷ bytes) rest w = rw (w.0, w.1)

-- no line ends in them
pub no_line_ends : (bytes rest : List ℕ) → NoControl bytes → line_ends (bytes ++ rest) ≡ line_ends rest
no_line_ends [] rest h = refl
no_line_ends (b ∷ bytes) rest h =
    let low : 32 ≤ b = h.0 in
    let differs : nat_eq b 10 ≡ false = ne_eqb b 10 (λ e. omega arith) in
    rw differs (no_line_ends bytes rest h.1)

-- what begins well has a byte
pub begins_some : (bytes : List ℕ) → BeginsWell bytes → 0 < length bytes
begins_some [] b = absurd b
begins_some (b ∷ bytes) w = omega arith

-- what is left of a text behind a token: as many lines end in it, and it is shorter
pub record IsLeft (rest text : List ℕ) : Type 0 where
  pub lines : line_ends rest ≡ line_ends text
  pub shorter : length rest < length text

-- what a token stands before is less
pub left_behind : (lexeme : Lexeme) (rest text : List ℕ) → StandsBefore lexeme rest text → IsLeft rest text
left_behind lexeme rest text s =
    let g = spelling_good lexeme s.is in
    let some = begins_some (spelling lexeme) g.begins in
    let l : length text ≡ length (spelling lexeme ++ rest) = ap length s.spelled in
    record {
      lines = sym (ap line_ends s.spelled ∙ no_line_ends (spelling lexeme) rest g.high);
      shorter = omega (arith, l, length-append (spelling lexeme) rest);
    }
