-- The texts of values: which bytes they have, and that each has one value.
use Rattle.std.proofs.Common.{◌≡◌, ℕ, suc, ◌<◌, ◌≤◌, ℤ, pos, negsuc, false, nat_eq, List, [], ◌∷◌, refl, ap, ◌∙◌, map, arith}
use Rattle.std.specs.Int.{w64}
use Rattle.std.specs.Prelude.{FitsSigned}
use Rattle.std.specs.Fmt.{decimal, signed_decimal}
use Rattle.std.specs.List.{AllByRecursion, join_with_byte, slice_split}
use Rattle.std.specs.Str.Parse.{AllDigits}
use Rattle.std.proofs.lemmas.Fmt.{decimal_is_IsNumeral, signed_decimal_injective}
use Rattle.std.proofs.lemmas.Str.Parse.{digit_from_value}
use Rattle.std.proofs.lemmas.Bool.Decides.{nat_tests}
use Rattle.hal_base.specs.declared.value.Value.{Value}
use Rattle.hal_base.specs.declared.value.Value.TheVariants.{Int, Text}
use Rattle.hal_base.specs.Values.{kind_of, IsValue}
use Rattle.hal_base.specs.Lines.{value_text}
use Rattle.hal_base.proofs.Cuts.{Without, split_at_byte, split_without, without-append}

-- no byte is a control character
abbrev pub IsPlain : List ℕ → Type 0
IsPlain bytes = AllByRecursion (λ b. 32 ≤ b) bytes

digits_plain : (ds : List ℕ) → AllDigits 10 ds → IsPlain ds
digits_plain [] a = tt
digits_plain (c ∷ cs) a = let r = digit_from_value c a.0 in (omega arith, digits_plain cs a.1)

number_plain : (n : ℤ) → FitsSigned w64 n → IsPlain (signed_decimal n)
number_plain (pos n) h = let f = h.sfits in digits_plain (decimal n) (decimal_is_IsNumeral n (omega arith)).0.1
number_plain (negsuc n) h = let f = h.sfits in (omega arith, digits_plain (decimal (suc n)) (decimal_is_IsNumeral (suc n) (omega arith)).0.1)

text_plain : (bytes : List ℕ) → AllByRecursion (λ byte. (32 ≤ byte) × (byte ≤ 126)) bytes → IsPlain bytes
text_plain [] a = tt
text_plain (b ∷ bs) a = (a.0.0, text_plain bs a.1)

pub value_plain : (v : Value) → IsValue v → IsPlain (value_text v)
value_plain (Int n) g = number_plain n g
value_plain (Text bytes) g = text_plain bytes g.1

pub values_plain : (vs : List Value) → AllByRecursion IsValue vs → AllByRecursion IsPlain (map value_text vs)
values_plain [] g = tt
values_plain (v ∷ vs) g = (value_plain v g.0, values_plain vs g.1)

pub above : (b c : ℕ) → c < b → nat_eq b c ≡ false
above b c l = grind (arith, nat_tests)

pub plain_without : (c : ℕ) (bytes : List ℕ) → c < 32 → IsPlain bytes → Without c bytes
plain_without c [] l p = tt
plain_without c (b ∷ bs) l p = (above b c (omega arith), plain_without c bs l p.1)

pub split_joined : (x : List ℕ) (xs : List (List ℕ)) → IsPlain x → AllByRecursion IsPlain xs → slice_split (λ b. nat_eq b 9) (join_with_byte 9 (x ∷ xs)) ≡ x ∷ xs
split_joined x [] p q = split_without 9 x (plain_without 9 x (omega arith) p)
split_joined x (y ∷ ys) p q = split_at_byte 9 x (join_with_byte 9 (y ∷ ys)) refl (plain_without 9 x (omega arith) p) ∙ ap (λ parts. x ∷ parts) (split_joined y ys q.0 q.1)

pub joined_without : (c : ℕ) (x : List ℕ) (xs : List (List ℕ)) → c < 32 → nat_eq 9 c ≡ false → IsPlain x → AllByRecursion IsPlain xs → Without c (join_with_byte 9 (x ∷ xs))
joined_without c x [] l e p q = plain_without c x l p
joined_without c x (y ∷ ys) l e p q = without-append c x (9 ∷ join_with_byte 9 (y ∷ ys)) (plain_without c x l p) (e, joined_without c y ys l e q.0 q.1)

pub same_value : (a b : Value) → IsValue a → IsValue b → kind_of a ≡ kind_of b → value_text a ≡ value_text b → a ≡ b
same_value (Int m) (Int n) g h k t = ap Int (signed_decimal_injective m n g.sfits h.sfits t)
same_value (Int m) (Text t) g h k e = cc
same_value (Text s) (Int n) g h k e = cc
same_value (Text s) (Text t) g h k e = ap Text e

pub same_values : (xs ys : List Value) → AllByRecursion IsValue xs → AllByRecursion IsValue ys → map kind_of xs ≡ map kind_of ys → map value_text xs ≡ map value_text ys → xs ≡ ys
same_values [] [] g h k t = refl
same_values [] (b ∷ ys) g h k t = cc
same_values (a ∷ xs) [] g h k t = cc
same_values (a ∷ xs) (b ∷ ys) g h k t =
    let e : a ≡ b = same_value a b g.0 h.0 (cc) (cc) in
    let r : xs ≡ ys = same_values xs ys g.1 h.1 (cc) (cc) in cc
