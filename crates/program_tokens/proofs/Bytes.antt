-- The bytes of words, of marks and of spellings.
use Rattle.std.proofs.Common.{◌≡◌, ◌≢◌, ℕ, ◌<◌, ◌≤◌, ◌&&◌, ◌^◌, Bool, true, false, nat_eq, nat_le, List, [], ◌∷◌, ◌++◌, refl, sym, ap, ◌∙◌, subst, length, arith, bytes_eq, codes, rules, ⊎_elim, true≢false}
use Rattle.std.specs.Char.{is_ascii_digit}
use Rattle.std.specs.Fmt.{decimal}
use Rattle.std.specs.List.{AllByRecursion, list_all, list_any}
use Rattle.std.specs.Str.Parse.{digits_value}
use Rattle.std.proofs.lemmas.Bool.{and_parts, false_from_ne_true, leb-true, ne_eqb, eqb-true, or_cases}
use Rattle.std.proofs.lemmas.Bool.Decides.{nat_tests}
use Rattle.std.proofs.lemmas.Fmt.{decimal_nonempty, digits_decimal}
use Rattle.std.proofs.lemmas.Slice.Eq.{bytes_eq-Decides}
use Rattle.std.proofs.lemmas.Str.Parse.{IsDigitsTest, IsNumeralModel, numerals_by_value}
use Rattle.hal_base.specs.Text.{IsText}
use Rattle.program_tokens.specs.steps.Lexing.{is_mark, word_front, word_rest}
use Rattle.program_tokens.specs.Tokens.{begins_in_word, ends_in_word, marks}
use Rattle.program_tokens.specs.Words.{begins_lower, is_lower, is_name_byte, is_word, is_word_byte}

-- what each byte that passes one test passes, all bytes do
pub all_weaker : (p q : ℕ → Bool) → ((b : ℕ) → p b ≡ true → q b ≡ true) → (bytes : List ℕ) → list_all p bytes ≡ true → list_all q bytes ≡ true
all_weaker p q w [] e = refl
all_weaker p q w (b ∷ bytes) e = let s = and_parts (p b) (list_all p bytes) e in rw (w b s.0, all_weaker p q w bytes s.1)

-- ---- words

-- what a word is made of
pub record HasWord (bytes : List ℕ) : Type 0 where
  pub lower : begins_lower bytes ≡ true
  pub short : length bytes ≤ 31
  pub name : list_all is_name_byte bytes ≡ true

-- a word is made so
pub word_has : (bytes : List ℕ) → is_word bytes ≡ true → HasWord bytes
word_has bytes e =
    let s = and_parts (begins_lower bytes && nat_le (length bytes) 31) (list_all is_name_byte bytes) e in
    let t = and_parts (begins_lower bytes) (nat_le (length bytes) 31) s.0 in
    record { lower = t.0; short = leb-true (length bytes) 31 t.1; name = s.1 }

-- a byte of a name is printable
printable_name : (b : ℕ) → is_name_byte b ≡ true → (32 ≤ b) × (b ≤ 126)
printable_name b e = (grind (arith, nat_tests), grind (arith, nat_tests))

printable_names : (bytes : List ℕ) → list_all is_name_byte bytes ≡ true → AllByRecursion (λ byte. (32 ≤ byte) × (byte ≤ 126)) bytes
printable_names [] e = tt
printable_names (b ∷ bytes) e = let s = and_parts (is_name_byte b) (list_all is_name_byte bytes) e in (printable_name b s.0, printable_names bytes s.1)

-- a word is a text
pub word_is_text : (bytes : List ℕ) → is_word bytes ≡ true → IsText bytes
word_is_text bytes e = let h = word_has bytes e in let s = h.short in (omega arith, printable_names bytes h.name)

-- the bytes of a name are bytes of words
pub of_word : (bytes : List ℕ) → list_all is_name_byte bytes ≡ true → list_all is_word_byte bytes ≡ true
of_word bytes e = all_weaker is_name_byte is_word_byte (λ b n. rw n) bytes e

-- ---- the word at the front

-- what begins in no word has no word at its front
pub no_front : (rest : List ℕ) → begins_in_word rest ≡ false → (word_front rest ≡ []) × (word_rest rest ≡ rest)
no_front [] e = (refl, refl)
no_front (b ∷ rest) e = (rw e, rw e)

-- a word before what begins in no word is the word at the front
pub front_again : (word rest : List ℕ) → list_all is_word_byte word ≡ true → begins_in_word rest ≡ false → (word_front (word ++ rest) ≡ word) × (word_rest (word ++ rest) ≡ rest)
front_again [] rest w n = no_front rest n
front_again (b ∷ word) rest w n =
    let s = and_parts (is_word_byte b) (list_all is_word_byte word) w in
    let r = front_again word rest s.1 n in
    (rw s.0 (ap (λ bytes. b ∷ bytes) r.0), rw s.0 r.1)

-- the word at the front and what is behind it make the text, and the word does not go on there
pub front_and_rest : (text : List ℕ) → (text ≡ word_front text ++ word_rest text) × (begins_in_word (word_rest text) ≡ false)
front_and_rest [] = (refl, refl)
front_and_rest (b ∷ text) =
    elim (is_word_byte b) as (λ t. is_word_byte b ≡ t → (b ∷ text ≡ word_front (b ∷ text) ++ word_rest (b ∷ text)) × (begins_in_word (word_rest (b ∷ text)) ≡ false)) [
      | true ↦ λ t. let r = front_and_rest text in (rw t (ap (λ bytes. b ∷ bytes) r.0), rw t r.1)
      | false ↦ λ t. (rw t, rw (t, t))
    ] refl

-- bytes of words end in a word
pub ends_of_word : (b : ℕ) (bytes : List ℕ) → list_all is_word_byte (b ∷ bytes) ≡ true → ends_in_word (b ∷ bytes) ≡ true
ends_of_word b [] e = (and_parts (is_word_byte b) true e).0
ends_of_word b (c ∷ bytes) e = ends_of_word c bytes (and_parts (is_word_byte b) (list_all is_word_byte (c ∷ bytes)) e).1

-- what stands apart from a word begins in none
pub apart_from : (b : ℕ) (bytes rest : List ℕ) → list_all is_word_byte (b ∷ bytes) ≡ true → (ends_in_word (b ∷ bytes) && begins_in_word rest) ≡ false → begins_in_word rest ≡ false
apart_from b bytes rest w a = rw (ends_of_word b bytes w) at a

-- ---- digits

-- where digits lie among the bytes
pub digit_range : (b : ℕ) → is_ascii_digit b ≡ true → (48 ≤ b) × (b ≤ 57)
digit_range b e = let s = and_parts (nat_le 48 b) (nat_le b 57) e in (leb-true 48 b s.0, leb-true b 57 s.1)

-- a digit is no small letter
pub digit_no_lower : (b : ℕ) → is_ascii_digit b ≡ true → is_lower b ≡ false
digit_no_lower b e = false_from_ne_true (is_lower b) (λ l.
    let r = digit_range b e in
    let high : b ≤ 57 = r.1 in
    let low : 97 ≤ b = leb-true 97 b (and_parts (nat_le 97 b) (nat_le b 122) l).0 in
    omega arith)

digit_of_word : (b : ℕ) → is_ascii_digit b ≡ true → is_word_byte b ≡ true
digit_of_word b e = let r = digit_range b e in grind (arith, nat_tests)

digits : IsDigitsTest (λ ds. list_all is_ascii_digit ds ≡ true)
digits = search rules

own : IsNumeralModel (λ ds. list_all is_ascii_digit ds ≡ true) (digits_value 10)
own = numerals_by_value (λ ds. list_all is_ascii_digit ds ≡ true) digits

-- some bytes, all of them digits
pub record AreDigits (bytes : List ℕ) : Type 0 where
  pub some : bytes ≢ []
  pub digits : list_all is_ascii_digit bytes ≡ true

-- a number is written in digits
pub decimal_is_digits : (n : ℕ) → n < 2 ^ 64 → AreDigits (decimal n)
decimal_is_digits n l =
    let s = decimal_nonempty n l in
    record {
      some = λ e. let z : length (decimal n) ≡ 0 = ap length e in absurd (omega arith);
      digits = digits_decimal own n l;
    }

-- digits are bytes of words
pub digits_of_word : (bytes : List ℕ) → list_all is_ascii_digit bytes ≡ true → list_all is_word_byte bytes ≡ true
digits_of_word bytes e = all_weaker is_ascii_digit is_word_byte digit_of_word bytes e

-- ---- marks

-- what holds of each mark
pub marks_each : (P : List ℕ → Type 0) (word : List ℕ) → P (codes "(") → P (codes ")") → P (codes "{") → P (codes "}") → P (codes ",") → P (codes ";") → P (codes ":") → P (codes "=") → P (codes "->") → list_any (bytes_eq word) marks ≡ true → P word
marks_each P word p1 p2 p3 p4 p5 p6 p7 p8 p9 e =
    let is = λ (mark : List ℕ) (p : P mark) (t : bytes_eq word mark ≡ true). subst P (sym ((bytes_eq-Decides word mark).0 t)) p in
    ⊎_elim (is (codes "(") p1) (λ e. ⊎_elim (is (codes ")") p2) (λ e. ⊎_elim (is (codes "{") p3) (λ e. ⊎_elim (is (codes "}") p4) (λ e. ⊎_elim (is (codes ",") p5)
    (λ e. ⊎_elim (is (codes ";") p6) (λ e. ⊎_elim (is (codes ":") p7) (λ e. ⊎_elim (is (codes "=") p8) (λ e. ⊎_elim (is (codes "->") p9) (λ e. absurd (true≢false (sym e)))
    (or_cases _ _ e)) (or_cases _ _ e)) (or_cases _ _ e)) (or_cases _ _ e)) (or_cases _ _ e)) (or_cases _ _ e)) (or_cases _ _ e)) (or_cases _ _ e)) (or_cases _ _ e)

-- what holds of each byte that is a mark
pub mark_byte_each : (P : ℕ → Type 0) (b : ℕ) → P 40 → P 41 → P 123 → P 125 → P 44 → P 59 → P 58 → P 61 → is_mark b ≡ true → P b
mark_byte_each P b p1 p2 p3 p4 p5 p6 p7 p8 e =
    let is = λ (mark : ℕ) (p : P mark) (t : nat_eq b mark ≡ true). subst P (sym (eqb-true b mark t)) p in
    ⊎_elim (λ e. ⊎_elim (λ e. ⊎_elim (λ e. ⊎_elim (λ e. ⊎_elim (λ e. ⊎_elim (λ e. ⊎_elim (is 40 p1) (is 41 p2) (or_cases _ _ e)) (is 123 p3) (or_cases _ _ e)) (is 125 p4) (or_cases _ _ e)) (is 44 p5) (or_cases _ _ e)) (is 59 p6) (or_cases _ _ e)) (is 58 p7) (or_cases _ _ e)) (is 61 p8) (or_cases _ _ e)

-- neither a mark, nor a quote, nor `-`
pub record IsOther (b : ℕ) : Type 0 where
  pub no_mark : is_mark b ≡ false
  pub no_quote : nat_eq b 34 ≡ false
  pub no_dash : nat_eq b 45 ≡ false

-- no byte of a word is one of these
pub word_is_other : (b : ℕ) → is_word_byte b ≡ true → IsOther b
word_is_other b w =
    let differs = λ (c : ℕ) (no : is_word_byte c ≡ false) (e : b ≡ c). true≢false (sym w ∙ (ap is_word_byte e ∙ no)) in
    record {
      no_mark = false_from_ne_true (is_mark b) (λ m. true≢false (sym w ∙ mark_byte_each (λ b. is_word_byte b ≡ false) b refl refl refl refl refl refl refl refl m));
      no_quote = ne_eqb b 34 (differs 34 refl);
      no_dash = ne_eqb b 45 (differs 45 refl);
    }
