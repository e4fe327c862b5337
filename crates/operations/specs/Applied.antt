-- What operations give.
use Rattle.std.specs.Prelude.{ℕ, zero, suc, ℤ, pos, negsuc, ◌+ℤ◌, ◌-ℤ◌, ◌*ℤ◌, int_div, int_rem, Bool, true, false, cond, not, ◌&&◌, ◌||◌, List, [], ◌∷◌, ◌++◌, Option, None, Some, length, take, drop}
use Rattle.std.specs.Int.{w64, saturate_signed, int_min, int_max}
use Rattle.std.specs.Fmt.{signed_decimal}
use Rattle.std.specs.Str.{bytes_eq}
use Rattle.std.specs.Str.Parse.{signed_digits_value}
use Rattle.std.specs.declared.cmp.Ordering.{Ordering}
use Rattle.std.specs.Ordering.{is_eq, is_ne, is_lt, is_le, is_gt, is_ge}
use Rattle.hal_base.specs.declared.value.Value.{Value}
use Rattle.hal_base.specs.declared.value.Value.TheVariants.{Int, Text}
use Rattle.hal_base.specs.Order.{value_cmp}
use Rattle.operations.specs.declared.operation.Operation.{Operation}
use Rattle.operations.specs.declared.operation.Operation.TheVariants.{Add, Sub, Mul, Div, Rem, Min, Max, Eq, Ne, Lt, Le, Gt, Ge, And, Or, Not, Cat, Len, Cut, Num, Txt, Pick}

-- the nearest number of 64 bits
abbrev pub saturated : ℤ → ℤ
saturated n = saturate_signed w64 n

-- 0 is false, each other number true
abbrev pub is_true : ℤ → Bool
is_true (pos zero) = false
is_true (pos (suc n)) = true
is_true (negsuc n) = true

-- truth is 1, falsehood 0
abbrev pub truth : Bool → ℤ
truth true = pos 1
truth false = pos 0

-- rounded towards 0; 0 where the divisor is 0
abbrev pub quotient : ℤ → ℤ → ℤ
quotient a b = cond (is_true b) (saturated (int_div a b)) (pos 0)

-- with the sign of the first; 0 where the divisor is 0
abbrev pub remainder : ℤ → ℤ → ℤ
remainder a b = cond (is_true b) (int_rem a b) (pos 0)

-- a number, where a negative one counts as 0
abbrev pub at_least_zero : ℤ → ℕ
at_least_zero (pos n) = n
at_least_zero (negsuc n) = 0

-- the first 255 bytes of two texts, one after the other
abbrev pub joined : List ℕ → List ℕ → List ℕ
joined a b = take 255 (a ++ b)

-- the bytes of a text from one on, and no more than so many
abbrev pub cut : List ℕ → ℤ → ℤ → List ℕ
cut text from count = take (at_least_zero count) (drop (at_least_zero from) text)

-- the number that a sign and digits write, as far as it goes
abbrev pub written : List ℕ → ℤ
written text = saturated (signed_digits_value 10 text)

-- the number of which the text is the spelling, or 0
abbrev pub number_in : List ℕ → ℤ
number_in text = cond (bytes_eq text (signed_decimal (written text))) (written text) (pos 0)

-- from two numbers
abbrev pub of_numbers : (ℤ → ℤ → ℤ) → List Value → Option Value
of_numbers f (Int a ∷ Int b ∷ []) = Some (Int (f a b))
of_numbers f others = None

-- from one number
abbrev pub of_number : (ℤ → Value) → List Value → Option Value
of_number f (Int a ∷ []) = Some (f a)
of_number f others = None

-- from one text
abbrev pub of_text : (List ℕ → ℤ) → List Value → Option Value
of_text f (Text a ∷ []) = Some (Int (f a))
of_text f others = None

-- by the order of two values of one kind
abbrev pub of_order : (Ordering → Bool) → List Value → Option Value
of_order test (Int a ∷ Int b ∷ []) = Some (Int (truth (test (value_cmp (Int a) (Int b)))))
of_order test (Text a ∷ Text b ∷ []) = Some (Int (truth (test (value_cmp (Text a) (Text b)))))
of_order test others = None

-- two texts joined
abbrev pub of_two_texts : List Value → Option Value
of_two_texts (Text a ∷ Text b ∷ []) = Some (Text (joined a b))
of_two_texts others = None

-- a part of a text
abbrev pub of_cut : List Value → Option Value
of_cut (Text a ∷ Int from ∷ Int count ∷ []) = Some (Text (cut a from count))
of_cut others = None

-- one of two values of one kind
abbrev pub of_choice : List Value → Option Value
of_choice (Int test ∷ Int a ∷ Int b ∷ []) = Some (cond (is_true test) (Int a) (Int b))
of_choice (Int test ∷ Text a ∷ Text b ∷ []) = Some (cond (is_true test) (Text a) (Text b))
of_choice others = None

-- what an operation gives for these arguments, where they are as many and of the kinds that it wants
abbrev pub applied : Operation → List Value → Option Value
applied Add args = of_numbers (λ a b. saturated (a +ℤ b)) args
applied Sub args = of_numbers (λ a b. saturated (a -ℤ b)) args
applied Mul args = of_numbers (λ a b. saturated (a *ℤ b)) args
applied Div args = of_numbers quotient args
applied Rem args = of_numbers remainder args
applied Min args = of_numbers int_min args
applied Max args = of_numbers int_max args
applied Eq args = of_order is_eq args
applied Ne args = of_order is_ne args
applied Lt args = of_order is_lt args
applied Le args = of_order is_le args
applied Gt args = of_order is_gt args
applied Ge args = of_order is_ge args
applied And args = of_numbers (λ a b. truth (is_true a && is_true b)) args
applied Or args = of_numbers (λ a b. truth (is_true a || is_true b)) args
applied Not args = of_number (λ a. Int (truth (not (is_true a)))) args
applied Cat args = of_two_texts args
applied Len args = of_text (λ a. pos (length a)) args
applied Cut args = of_cut args
applied Num args = of_text number_in args
applied Txt args = of_number (λ a. Text (signed_decimal a)) args
applied Pick args = of_choice args
