-- What operations give for values is a value.
use Rattle.std.proofs.Common.{ℕ, zero, suc, ◌≤◌, ℤ, pos, negsuc, int_lt, int_rem, Bool, true, false, cond, not, List, [], ◌∷◌, ◌++◌, IfSome, FitsSigned, take, drop, length, arith, w64}
use Rattle.std.specs.Fmt.{signed_decimal}
use Rattle.std.specs.Int.{int_max, int_min}
use Rattle.std.specs.List.{AllByRecursion}
use Rattle.std.specs.Str.{bytes_eq}
use Rattle.std.specs.declared.cmp.Ordering.{Ordering}
use Rattle.std.specs.Ordering.{is_eq, is_ge, is_gt, is_le, is_lt, is_ne}
use Rattle.std.proofs.lemmas.Fmt.{length_signed_le}
use Rattle.std.proofs.lemmas.Int.{fits_signed_from_abs, rem_below}
use Rattle.std.proofs.lemmas.List.{length-take}
use Rattle.hal_base.specs.declared.value.Value.{Value}
use Rattle.hal_base.specs.declared.value.Value.TheVariants as value
use Rattle.hal_base.specs.Order.{value_cmp}
use Rattle.hal_base.specs.Text.{IsText}
use Rattle.hal_base.specs.Values.{IsValue}
use Rattle.operations.specs.declared.operation.Operation.TheVariants as op
use Rattle.operations.specs.Applied.{at_least_zero, cut, is_true, joined, number_in, of_choice, of_cut, of_number, of_numbers, of_order, of_text, of_two_texts, quotient, remainder, saturated, truth, written}
use Rattle.operations.specs.Laws.{ValuesGiveValues}
use Rattle.operations.proofs.Joining.{Printable, spelling_is_text}
use Rattle.operations.proofs.Spellings.{saturated_fits}

-- ---- numbers

-- a number of 64 bits
abbrev Fits : ℤ → Type 0
Fits n = FitsSigned w64 n

zero_fits : Fits (pos 0)
zero_fits = record { sfits = omega arith }

truth_fits : (b : Bool) → Fits (truth b)
truth_fits true = record { sfits = omega arith }
truth_fits false = record { sfits = omega arith }

one_fits : (b : Bool) (x y : ℤ) → Fits x → Fits y → Fits (cond b x y)
one_fits true x y f g = f
one_fits false x y f g = g

quotient_fits : (a b : ℤ) → Fits (quotient a b)
quotient_fits a b = one_fits (is_true b) (saturated _) (pos 0) (saturated_fits _) zero_fits

remainder_fits : (a b : ℤ) → Fits b → Fits (remainder a b)
remainder_fits a (pos zero) f = zero_fits
remainder_fits a (pos (suc n)) f = let l = f.sfits in fits_signed_from_abs w64 (int_rem a (pos (suc n))) (omega (arith, rem_below a (pos (suc n)) (omega arith)))
remainder_fits a (negsuc n) f = let l = f.sfits in fits_signed_from_abs w64 (int_rem a (negsuc n)) (omega (arith, rem_below a (negsuc n) (omega arith)))

-- the number that a text is the spelling of
number_in_fits : (text : List ℕ) → Fits (number_in text)
number_in_fits text = one_fits (bytes_eq text (signed_decimal (written text))) (written text) (pos 0) (saturated_fits _) zero_fits

-- ---- texts

printable_both : (a b : List ℕ) → Printable a → Printable b → Printable (a ++ b)
printable_both [] b p q = q
printable_both (x ∷ a) b p q = (p.0, printable_both a b p.1 q)

printable_take : (n : ℕ) (text : List ℕ) → Printable text → Printable (take n text)
printable_take zero text p = tt
printable_take (suc n) [] p = tt
printable_take (suc n) (x ∷ text) p = (p.0, printable_take n text p.1)

printable_drop : (n : ℕ) (text : List ℕ) → Printable text → Printable (drop n text)
printable_drop zero text p = p
printable_drop (suc n) [] p = tt
printable_drop (suc n) (x ∷ text) p = printable_drop n text p.1

-- the rest of a text is no longer
drop_no_longer : (n : ℕ) (text : List ℕ) → length (drop n text) ≤ length text
drop_no_longer zero text = omega arith
drop_no_longer (suc n) [] = omega arith
drop_no_longer (suc n) (x ∷ text) = omega (arith, drop_no_longer n text)

joined_is_text : (a b : List ℕ) → IsText a → IsText b → IsText (joined a b)
joined_is_text a b p q = (omega (arith, length-take 255 (a ++ b)), printable_take 255 (a ++ b) (printable_both a b p.1 q.1))

cut_is_text : (text : List ℕ) (from count : ℤ) → IsText text → IsText (cut text from count)
cut_is_text text from count p =
    let rest = drop (at_least_zero from) text in
    (omega (arith, length-take (at_least_zero count) rest, drop_no_longer (at_least_zero from) text, p.0), printable_take (at_least_zero count) rest (printable_drop (at_least_zero from) text p.1))

spelled : (n : ℤ) → Fits n → IsText (signed_decimal n)
spelled (pos n) f = let l = f.sfits in spelling_is_text (pos n) f (omega (arith, length_signed_le 20 (pos n) (omega arith) (omega arith)))
spelled (negsuc n) f = let l = f.sfits in spelling_is_text (negsuc n) f (omega (arith, length_signed_le 20 (negsuc n) (omega arith) (omega arith)))

-- ---- from arguments

numbers_give : (f : ℤ → ℤ → ℤ) → ((a b : ℤ) → Fits a → Fits b → Fits (f a b)) → (vs : List Value) → AllByRecursion IsValue vs → IfSome (of_numbers f vs) IsValue
numbers_give f h [] all = tt
numbers_give f h (value.Text a ∷ vs) all = tt
numbers_give f h (value.Int a ∷ []) all = tt
numbers_give f h (value.Int a ∷ value.Text b ∷ vs) all = tt
numbers_give f h (value.Int a ∷ value.Int b ∷ []) all = h a b all.0 all.1.0
numbers_give f h (value.Int a ∷ value.Int b ∷ c ∷ vs) all = tt

number_gives : (f : ℤ → Value) → ((a : ℤ) → Fits a → IsValue (f a)) → (vs : List Value) → AllByRecursion IsValue vs → IfSome (of_number f vs) IsValue
number_gives f h [] all = tt
number_gives f h (value.Text a ∷ vs) all = tt
number_gives f h (value.Int a ∷ []) all = h a all.0
number_gives f h (value.Int a ∷ b ∷ vs) all = tt

text_gives : (f : List ℕ → ℤ) → ((a : List ℕ) → IsText a → Fits (f a)) → (vs : List Value) → AllByRecursion IsValue vs → IfSome (of_text f vs) IsValue
text_gives f h [] all = tt
text_gives f h (value.Int a ∷ vs) all = tt
text_gives f h (value.Text a ∷ []) all = h a all.0
text_gives f h (value.Text a ∷ b ∷ vs) all = tt

order_gives : (test : Ordering → Bool) (vs : List Value) → IfSome (of_order test vs) IsValue
order_gives test [] = tt
order_gives test (value.Int a ∷ []) = tt
order_gives test (value.Int a ∷ value.Int b ∷ []) = truth_fits (test (value_cmp (value.Int a) (value.Int b)))
order_gives test (value.Int a ∷ value.Int b ∷ c ∷ vs) = tt
order_gives test (value.Int a ∷ value.Text b ∷ vs) = tt
order_gives test (value.Text a ∷ []) = tt
order_gives test (value.Text a ∷ value.Int b ∷ vs) = tt
order_gives test (value.Text a ∷ value.Text b ∷ []) = truth_fits (test (value_cmp (value.Text a) (value.Text b)))
order_gives test (value.Text a ∷ value.Text b ∷ c ∷ vs) = tt

texts_give : (vs : List Value) → AllByRecursion IsValue vs → IfSome (of_two_texts vs) IsValue
texts_give [] all = tt
texts_give (value.Int a ∷ vs) all = tt
texts_give (value.Text a ∷ []) all = tt
texts_give (value.Text a ∷ value.Int b ∷ vs) all = tt
texts_give (value.Text a ∷ value.Text b ∷ []) all = joined_is_text a b all.0 all.1.0
texts_give (value.Text a ∷ value.Text b ∷ c ∷ vs) all = tt

cut_gives : (vs : List Value) → AllByRecursion IsValue vs → IfSome (of_cut vs) IsValue
cut_gives [] all = tt
cut_gives (value.Int a ∷ vs) all = tt
cut_gives (value.Text a ∷ []) all = tt
cut_gives (value.Text a ∷ value.Text b ∷ vs) all = tt
cut_gives (value.Text a ∷ value.Int b ∷ []) all = tt
cut_gives (value.Text a ∷ value.Int b ∷ value.Text c ∷ vs) all = tt
cut_gives (value.Text a ∷ value.Int b ∷ value.Int c ∷ []) all = cut_is_text a b c all.0
cut_gives (value.Text a ∷ value.Int b ∷ value.Int c ∷ d ∷ vs) all = tt

one_of_both : (b : Bool) (x y : Value) → IsValue x → IsValue y → IsValue (cond b x y)
one_of_both true x y p q = p
one_of_both false x y p q = q

choice_gives : (vs : List Value) → AllByRecursion IsValue vs → IfSome (of_choice vs) IsValue
choice_gives [] all = tt
choice_gives (value.Text a ∷ vs) all = tt
choice_gives (value.Int a ∷ []) all = tt
choice_gives (value.Int a ∷ value.Int b ∷ []) all = tt
choice_gives (value.Int a ∷ value.Text b ∷ []) all = tt
choice_gives (value.Int a ∷ value.Int b ∷ value.Text c ∷ vs) all = tt
choice_gives (value.Int a ∷ value.Text b ∷ value.Int c ∷ vs) all = tt
choice_gives (value.Int a ∷ value.Int b ∷ value.Int c ∷ []) all = one_of_both (is_true a) (value.Int b) (value.Int c) all.1.0 all.1.1.0
choice_gives (value.Int a ∷ value.Text b ∷ value.Text c ∷ []) all = one_of_both (is_true a) (value.Text b) (value.Text c) all.1.0 all.1.1.0
choice_gives (value.Int a ∷ value.Int b ∷ value.Int c ∷ d ∷ vs) all = tt
choice_gives (value.Int a ∷ value.Text b ∷ value.Text c ∷ d ∷ vs) all = tt

-- what an operation gives for values is a value
pub applied_values : ValuesGiveValues
applied_values op.Add vs all = numbers_give _ (λ a b f g. saturated_fits _) vs all
applied_values op.Sub vs all = numbers_give _ (λ a b f g. saturated_fits _) vs all
applied_values op.Mul vs all = numbers_give _ (λ a b f g. saturated_fits _) vs all
applied_values op.Div vs all = numbers_give quotient (λ a b f g. quotient_fits a b) vs all
applied_values op.Rem vs all = numbers_give remainder (λ a b f g. remainder_fits a b g) vs all
applied_values op.Min vs all = numbers_give int_min (λ a b f g. one_fits (int_lt b a) b a g f) vs all
applied_values op.Max vs all = numbers_give int_max (λ a b f g. one_fits (int_lt b a) a b f g) vs all
applied_values op.Eq vs all = order_gives is_eq vs
applied_values op.Ne vs all = order_gives is_ne vs
applied_values op.Lt vs all = order_gives is_lt vs
applied_values op.Le vs all = order_gives is_le vs
applied_values op.Gt vs all = order_gives is_gt vs
applied_values op.Ge vs all = order_gives is_ge vs
applied_values op.And vs all = numbers_give _ (λ a b f g. truth_fits _) vs all
applied_values op.Or vs all = numbers_give _ (λ a b f g. truth_fits _) vs all
applied_values op.Not vs all = number_gives _ (λ a f. truth_fits (not (is_true a))) vs all
applied_values op.Cat vs all = texts_give vs all
applied_values op.Len vs all = text_gives (λ a. pos (length a)) (λ a p. let few = p.0 in record { sfits = omega arith }) vs all
applied_values op.Cut vs all = cut_gives vs all
applied_values op.Num vs all = text_gives number_in (λ a p. number_in_fits a) vs all
applied_values op.Txt vs all = number_gives _ (λ a f. spelled a f) vs all
applied_values op.Pick vs all = choice_gives vs all
