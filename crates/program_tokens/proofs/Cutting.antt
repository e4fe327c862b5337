-- What is cut from the front of a text is the token that stands there.
use Rattle.std.proofs.Common.{◌≡◌, ◌≢◌, ℕ, suc, ◌+◌, ◌≤◌, ◌&&◌, ◌||◌, ℤ, pos, negsuc, true, false, nat_eq, nat_le, nat_lt, List, [], ◌∷◌, ◌++◌, None, Some, FitsSigned, refl, sym, ap, ◌∙◌, subst, length, drop, length-append, append_assoc, append-nil, arith, bytes_eq, w64, cond, eqb-true, ⊎_elim}
use Rattle.std.specs.Char.{is_ascii_digit}
use Rattle.std.specs.Fmt.{decimal, signed_decimal}
use Rattle.std.specs.List.{AllByRecursion, list_all, list_any}
use Rattle.std.proofs.lemmas.Bool.{and_from, and_parts, cond_both, leb-true, le-leb, lt-ltb, ltb-true, ne_eqb, or_cases, or_parts, or_left, and_right}
use Rattle.hal_base.specs.Text.{IsText}
use Rattle.program_tokens.specs.declared.token.Lexeme.{Lexeme}
use Rattle.program_tokens.specs.declared.token.Lexeme.TheVariants.{Plain, Int, Quoted, Bad, End}
use Rattle.program_tokens.specs.steps.Lexing.{Cut, as_number, cut, cut_dash, is_arrow, cut_escaped, cut_quoted, cut_word, is_mark, is_printable, number_of, word_front, word_rest}
use Rattle.program_tokens.specs.Tokens.{StandsBefore, begins_in_word, ends_in_word, escaped, marks}
use Rattle.program_tokens.specs.Words.{is_word, is_word_byte}
use Rattle.program_tokens.proofs.Bytes.{AreDigits, IsOther, apart_from, decimal_is_digits, digit_no_lower, digit_range, digits_of_word, front_again, front_and_rest, mark_byte_each, marks_each, of_word, word_has, word_is_other}
use Rattle.program_tokens.proofs.Numbers.{number_again, number_spelled}

-- ---- a token that stands at the front is cut

-- what is no mark, no quote and no `-` begins a word
cut_other : (b : ℕ) (text : List ℕ) → IsOther b → cut (b ∷ text) ≡ cut_word (b ∷ text)
cut_other b text o = rw (o.no_mark, o.no_quote, o.no_dash)

-- a word is cut
word_again : (word rest : List ℕ) → is_word word ≡ true → (ends_in_word word && begins_in_word rest) ≡ false → cut (word ++ rest) ≡ (Plain word, rest)
word_again [] rest w a = cc
word_again (b ∷ word) rest w a =
    let h = word_has (b ∷ word) w in
    let all = of_word (b ∷ word) h.name in
    let f = front_again (b ∷ word) rest all (apart_from b word rest all a) in
    let byte = (and_parts (is_word_byte b) (list_all is_word_byte word) all).0 in
    cut_other b (word ++ rest) (word_is_other b byte) ∙ rw (f.0, f.1, w)

-- a mark is cut
mark_again : (word rest : List ℕ) → list_any (bytes_eq word) marks ≡ true → cut (word ++ rest) ≡ (Plain word, rest)
mark_again word rest m =
    let P = λ (word : List ℕ). cut (word ++ rest) ≡ (Plain word, rest) in
    marks_each P word refl refl refl refl refl refl refl refl refl m

-- digits are cut as a number
plain_digits : (ds rest : List ℕ) → AreDigits ds → (ends_in_word ds && begins_in_word rest) ≡ false → cut (ds ++ rest) ≡ as_number (number_of ds) rest (ds ++ rest)
plain_digits [] rest d a = absurd (d.some refl)
plain_digits (b ∷ ds) rest d a =
    let digit = (and_parts (is_ascii_digit b) (list_all is_ascii_digit ds) d.digits).0 in
    let all = digits_of_word (b ∷ ds) d.digits in
    let f = front_again (b ∷ ds) rest all (apart_from b ds rest all a) in
    let byte = (and_parts (is_word_byte b) (list_all is_word_byte ds) all).0 in
    cut_other b (ds ++ rest) (word_is_other b byte) ∙ rw (f.0, f.1, digit_no_lower b digit)

-- and so with a `-` in front
dash_digits : (ds rest : List ℕ) → AreDigits ds → (ends_in_word ds && begins_in_word rest) ≡ false → cut (45 ∷ ds ++ rest) ≡ as_number (number_of (45 ∷ ds)) rest (45 ∷ ds ++ rest)
dash_digits [] rest d a = absurd (d.some refl)
dash_digits (b ∷ ds) rest d a =
    let digit = (and_parts (is_ascii_digit b) (list_all is_ascii_digit ds) d.digits).0 in
    let r = digit_range b digit in
    let high : b ≤ 57 = r.1 in
    let all = digits_of_word (b ∷ ds) d.digits in
    let f = front_again (b ∷ ds) rest all (apart_from b ds rest all a) in
    let no_arrow : nat_eq b 62 ≡ false = ne_eqb b 62 (λ e. omega arith) in
    rw (no_arrow, f.0, f.1)

-- no byte of a word behind a sign is taken for the sign
ends_with_sign : (ds : List ℕ) → ds ≢ [] → ends_in_word (45 ∷ ds) ≡ ends_in_word ds
ends_with_sign [] n = absurd (n refl)
ends_with_sign (b ∷ ds) n = refl

-- a number is cut
int_again : (n : ℤ) (rest : List ℕ) → FitsSigned w64 n → (ends_in_word (signed_decimal n) && begins_in_word rest) ≡ false → cut (signed_decimal n ++ rest) ≡ (Int n, rest)
int_again (pos n) rest fits a =
    let l = fits.sfits in
    plain_digits (decimal n) rest (decimal_is_digits n (omega arith)) a ∙ rw (number_again (decimal n) (pos n) fits refl)
int_again (negsuc n) rest fits a =
    let l = fits.sfits in
    let d = decimal_is_digits (suc n) (omega arith) in
    dash_digits (decimal (suc n)) rest d (rw (ends_with_sign (decimal (suc n)) d.some) at a) ∙ rw (number_again (45 ∷ decimal (suc n)) (negsuc n) fits refl)

-- the test of printable bytes
printable_test : (b : ℕ) → 32 ≤ b → b ≤ 126 → is_printable b ≡ true
printable_test b l h = and_from (nat_le 32 b) (nat_le b 126) (le-leb 32 b l) (le-leb b 126 h)

-- a text within quotes is read, with what was read before
quoted_again : (all got text rest : List ℕ) → length got + length text ≤ 255 → AllByRecursion (λ byte. (32 ≤ byte) × (byte ≤ 126)) text → cut_quoted all got (escaped text ++ 34 ∷ rest) ≡ (Quoted (got ++ text), rest)
quoted_again all got [] rest l p = ap (λ bytes. (Quoted bytes, rest)) (sym (append-nil got))
quoted_again all got (b ∷ text) rest l p =
    let room : nat_lt (length got) 255 ≡ true = lt-ltb (length got) 255 (omega arith) in
    let longer : length (got ++ b ∷ []) + length text ≤ 255 = simp length-append (omega arith) in
    let next = quoted_again all (got ++ b ∷ []) text rest longer p.1 in
    let whole : ◌≡◌ {A = Cut} (Quoted ((got ++ b ∷ []) ++ text), rest) (Quoted (got ++ b ∷ text), rest) = ap (λ bytes. (Quoted bytes, rest)) (append_assoc got (b ∷ []) text) in
    let special = nat_eq b 34 || nat_eq b 92 in
    elim special as (λ t. special ≡ t → cut_quoted all got (escaped (b ∷ text) ++ 34 ∷ rest) ≡ (Quoted (got ++ b ∷ text), rest)) [
      | true ↦ λ t. rw (t, t, room) (next ∙ whole)
      | false ↦ λ t.
          let s = or_parts (nat_eq b 34) (nat_eq b 92) t in
          rw (t, s.0, s.1, printable_test b p.0.0 p.0.1, room) (next ∙ whole)
    ] refl

-- a token that stands at the front is cut from it
pub cut_again : (lexeme : Lexeme) (rest text : List ℕ) → StandsBefore lexeme rest text → cut text ≡ (lexeme, rest)
cut_again (Plain word) rest text s = ap cut s.spelled ∙ ⊎_elim (λ w. word_again word rest w s.apart) (λ m. mark_again word rest m) (or_cases (is_word word) (list_any (bytes_eq word) marks) s.is)
cut_again (Int n) rest text s = ap cut s.spelled ∙ int_again n rest s.is s.apart
cut_again (Quoted quoted) rest text s =
    let whole : text ≡ 34 ∷ (escaped quoted ++ 34 ∷ rest) = s.spelled ∙ ap (λ bytes. 34 ∷ bytes) (append_assoc (escaped quoted) (34 ∷ []) rest) in
    let is : IsText quoted = s.is in
    let few = is.0 in
    ap cut whole ∙ quoted_again (34 ∷ (escaped quoted ++ 34 ∷ rest)) [] quoted rest (omega arith) is.1
cut_again Bad rest text s = absurd s.is
cut_again End rest text s = absurd s.is

-- ---- what is cut stands at the front

-- this was cut from a text that has something
abbrev pub CutStands : Lexeme → List ℕ → List ℕ → Type 0
CutStands (Plain word) rest text = StandsBefore (Plain word) rest text
CutStands (Int n) rest text = StandsBefore (Int n) rest text
CutStands (Quoted quoted) rest text = StandsBefore (Quoted quoted) rest text
CutStands Bad rest text = rest ≡ text
CutStands End rest text = ⊥

-- the same, of a token with what is behind it
abbrev CutStandsIn : List ℕ → Cut → Type 0
CutStandsIn text c = CutStands c.0 c.1 text

-- what was cut as a number
number_found : (piece rest text : List ℕ) → text ≡ piece ++ rest → begins_in_word rest ≡ false → CutStandsIn text (as_number (number_of piece) rest text)
number_found piece rest text whole apart =
    elim (number_of piece) as (λ o. number_of piece ≡ o → CutStandsIn text (as_number o rest text)) [
      | None ↦ λ e. refl
      | Some n ↦ λ e.
          let s = number_spelled piece n e in
          record { is = s.0; spelled = whole ∙ ap (λ bytes. bytes ++ rest) s.1; apart = and_right (ends_in_word (signed_decimal n)) (begins_in_word rest) apart }
    ] refl

-- what was cut as a word
word_found : (text : List ℕ) → CutStandsIn text (cut_word text)
word_found text =
    let f = front_and_rest text in
    cond_both (is_word (word_front text)) (Plain (word_front text), word_rest text) (as_number (number_of (word_front text)) (word_rest text) text) (CutStandsIn text)
    (λ w. record { is = or_left (is_word (word_front text)) (list_any (bytes_eq (word_front text)) marks) w; spelled = f.0; apart = and_right (ends_in_word (word_front text)) (begins_in_word (word_rest text)) f.1 })
    (λ w. number_found (word_front text) (word_rest text) text f.0 f.1)

-- what was cut behind a `-`
arrow_found : (text : List ℕ) → is_arrow text ≡ true → StandsBefore (Plain (45 ∷ 62 ∷ [])) (drop 1 text) (45 ∷ text)
arrow_found [] a = cc
arrow_found (b ∷ text) a = record { is = refl; spelled = ap (λ x. 45 ∷ x ∷ text) (eqb-true b 62 a); apart = refl }

dash_found : (text : List ℕ) → CutStandsIn (45 ∷ text) (cut_dash text)
dash_found text =
    let f = front_and_rest text in
    let number = as_number (number_of (45 ∷ word_front text)) (word_rest text) (45 ∷ text) in
    cond_both (is_arrow text) (Plain (45 ∷ 62 ∷ []), drop 1 text) number (CutStandsIn (45 ∷ text)) (arrow_found text)
    (λ a. number_found (45 ∷ word_front text) (word_rest text) (45 ∷ text) (ap (λ bytes. 45 ∷ bytes) f.0) f.1)

-- what was cut as a mark
mark_found : (b : ℕ) (text : List ℕ) → is_mark b ≡ true → StandsBefore (Plain (b ∷ [])) text (b ∷ text)
mark_found b text m =
    let one = λ (b : ℕ) (is : (is_word (b ∷ []) || list_any (bytes_eq (b ∷ [])) marks) ≡ true) (no : is_word_byte b ≡ false). let s : StandsBefore (Plain (b ∷ [])) text (b ∷ text) = record { is = is; spelled = refl; apart = rw no } in s in
    mark_byte_each (λ (b : ℕ). StandsBefore (Plain (b ∷ [])) text (b ∷ text)) b (one 40 refl refl) (one 41 refl refl) (one 123 refl refl) (one 125 refl refl) (one 44 refl refl) (one 59 refl refl) (one 58 refl refl) (one 61 refl refl) m

-- a text that is put together is escaped part by part
escaped_more : (got text : List ℕ) → escaped (got ++ text) ≡ escaped got ++ escaped text
escaped_more [] text = refl
escaped_more (b ∷ got) text =
    elim (nat_eq b 34 || nat_eq b 92) as (λ t. (nat_eq b 34 || nat_eq b 92) ≡ t → escaped (b ∷ (got ++ text)) ≡ escaped (b ∷ got) ++ escaped text) [
      | true ↦ λ t. rw t (ap (λ bytes. 92 ∷ b ∷ bytes) (escaped_more got text))
      | false ↦ λ t. rw t (ap (λ bytes. b ∷ bytes) (escaped_more got text))
    ] refl

-- a text ends with its quote, and so in no word
ends_in_quote : (bytes : List ℕ) → ends_in_word (bytes ++ 34 ∷ []) ≡ false
ends_in_quote [] = refl
ends_in_quote (b ∷ []) = refl
ends_in_quote (b ∷ c ∷ bytes) = ends_in_quote (c ∷ bytes)

all_and_one : (P : ℕ → Type 0) (bytes : List ℕ) (b : ℕ) → AllByRecursion P bytes → P b → AllByRecursion P (bytes ++ b ∷ [])
all_and_one P [] b a p = (p, tt)
all_and_one P (x ∷ bytes) b a p = (a.0, all_and_one P bytes b a.1 p)

-- a text with room has one more byte
longer_text : (got : List ℕ) (b : ℕ) → IsText got → 32 ≤ b → b ≤ 126 → nat_lt (length got) 255 ≡ true → IsText (got ++ b ∷ [])
longer_text got b is low high room =
    let few = ltb-true (length got) 255 room in
    (simp length-append (omega arith), all_and_one (λ byte. (32 ≤ byte) × (byte ≤ 126)) got b is.1 (low, high))

-- the same with one byte more, as it stands and escaped
plain_more : (all got : List ℕ) (b : ℕ) (text : List ℕ) → all ≡ 34 ∷ (escaped got ++ b ∷ text) → nat_eq b 34 ≡ false → nat_eq b 92 ≡ false → all ≡ 34 ∷ (escaped (got ++ b ∷ []) ++ text)
plain_more all got b text whole q s =
    let one : escaped (b ∷ []) ≡ b ∷ [] = rw (q, s) in
    let more : escaped (got ++ b ∷ []) ≡ escaped got ++ b ∷ [] = escaped_more got (b ∷ []) ∙ ap (λ bytes. escaped got ++ bytes) one in
    whole ∙ ap (λ bytes. 34 ∷ bytes) (sym (ap (λ bytes. bytes ++ text) more ∙ append_assoc (escaped got) (b ∷ []) text))

escaped_more_by_one : (all got : List ℕ) (b : ℕ) (text : List ℕ) → all ≡ 34 ∷ (escaped got ++ 92 ∷ b ∷ text) → (nat_eq b 34 || nat_eq b 92) ≡ true → all ≡ 34 ∷ (escaped (got ++ b ∷ []) ++ text)
escaped_more_by_one all got b text whole q =
    let one : escaped (b ∷ []) ≡ 92 ∷ b ∷ [] = rw q in
    let more : escaped (got ++ b ∷ []) ≡ escaped got ++ 92 ∷ b ∷ [] = escaped_more got (b ∷ []) ∙ ap (λ bytes. escaped got ++ bytes) one in
    whole ∙ ap (λ bytes. 34 ∷ bytes) (sym (ap (λ bytes. bytes ++ text) more ∙ append_assoc (escaped got) (92 ∷ b ∷ []) text))

-- a quote and a `\` are printable
special_range : (b : ℕ) → (nat_eq b 34 || nat_eq b 92) ≡ true → (32 ≤ b) × (b ≤ 126)
special_range b e = ⊎_elim (λ e. let i = eqb-true b 34 e in (omega arith, omega arith)) (λ e. let i = eqb-true b 92 e in (omega arith, omega arith)) (or_cases (nat_eq b 34) (nat_eq b 92) e)

-- a text that its quote closes
closed_found : (all got text : List ℕ) → all ≡ 34 ∷ (escaped got ++ 34 ∷ text) → IsText got → StandsBefore (Quoted got) text all
closed_found all got text whole is = record {
  is = is;
  spelled = whole ∙ ap (λ bytes. 34 ∷ bytes) (sym (append_assoc (escaped got) (34 ∷ []) text));
  apart = rw (ends_in_quote (34 ∷ escaped got));
}

mutual
  quoted_found : (all got text : List ℕ) → all ≡ 34 ∷ (escaped got ++ text) → IsText got → CutStandsIn all (cut_quoted all got text)
  quoted_found all got [] whole is = refl
  quoted_found all got (b ∷ text) whole is =
      cond_both (nat_eq b 34) (Quoted got, text) (cond (nat_eq b 92) (cut_escaped all got text) (cond (is_printable b && nat_lt (length got) 255) (cut_quoted all (got ++ b ∷ []) text) (Bad, all))) (CutStandsIn all)
      (λ q. closed_found all got text (subst (λ x. all ≡ 34 ∷ (escaped got ++ x ∷ text)) (eqb-true b 34 q) whole) is)
      (λ q. cond_both (nat_eq b 92) (cut_escaped all got text) (cond (is_printable b && nat_lt (length got) 255) (cut_quoted all (got ++ b ∷ []) text) (Bad, all)) (CutStandsIn all)
      (λ s. escaped_found all got text (subst (λ x. all ≡ 34 ∷ (escaped got ++ x ∷ text)) (eqb-true b 92 s) whole) is)
      (λ s. cond_both (is_printable b && nat_lt (length got) 255) (cut_quoted all (got ++ b ∷ []) text) (Bad, all) (CutStandsIn all)
      (λ t.
      let parts = and_parts (is_printable b) (nat_lt (length got) 255) t in
      let range = and_parts (nat_le 32 b) (nat_le b 126) parts.0 in
      quoted_found all (got ++ b ∷ []) text (plain_more all got b text whole q s) (longer_text got b is (leb-true 32 b range.0) (leb-true b 126 range.1) parts.1))
      (λ t. refl)))

  escaped_found : (all got text : List ℕ) → all ≡ 34 ∷ (escaped got ++ 92 ∷ text) → IsText got → CutStandsIn all (cut_escaped all got text)
  escaped_found all got [] whole is = refl
  escaped_found all got (b ∷ text) whole is =
      cond_both ((nat_eq b 34 || nat_eq b 92) && nat_lt (length got) 255) (cut_quoted all (got ++ b ∷ []) text) (Bad, all) (CutStandsIn all)
      (λ t.
      let parts = and_parts (nat_eq b 34 || nat_eq b 92) (nat_lt (length got) 255) t in
      let range = special_range b parts.0 in
      quoted_found all (got ++ b ∷ []) text (escaped_more_by_one all got b text whole parts.0) (longer_text got b is range.0 range.1 parts.1))
      (λ t. refl)

-- what is cut from a text that has something stands at its front, or is no token
pub cut_found : (b : ℕ) (text : List ℕ) → CutStandsIn (b ∷ text) (cut (b ∷ text))
cut_found b text =
    let number = cond (nat_eq b 45) (cut_dash text) (cut_word (b ∷ text)) in
    let quote = cond (nat_eq b 34) (cut_quoted (b ∷ text) [] text) number in
    cond_both (is_mark b) (Plain (b ∷ []), text) quote (CutStandsIn (b ∷ text)) (λ m. mark_found b text m)
    (λ m. cond_both (nat_eq b 34) (cut_quoted (b ∷ text) [] text) number (CutStandsIn (b ∷ text))
    (λ q. quoted_found (b ∷ text) [] text (ap (λ x. x ∷ text) (eqb-true b 34 q)) (omega arith, tt))
    (λ q. cond_both (nat_eq b 45) (cut_dash text) (cut_word (b ∷ text)) (CutStandsIn (b ∷ text))
    (λ d. subst (λ x. CutStandsIn (x ∷ text) (cut_dash text)) (sym (eqb-true b 45 d)) (dash_found text))
    (λ d. word_found (b ∷ text))))
