-- What calls give, by the list of their arguments.
use Rattle.std.proofs.Common.{◌≡◌, ◌∙◌, ◌<◌, ℕ, ℤ, Bool, List, [], ◌∷◌, Option, None, Some, Result, IfSome, ap, arith, cond, false, length, map, nat_le, refl, suc, subst, sym}
use Rattle.std.proofs.lemmas.Bool.Decides.{nat_tests}
use Rattle.std.proofs.lemmas.List.{length-map}
use Rattle.std.specs.declared.cmp.Ordering.{Ordering}
use Rattle.std.specs.Ordering.{is_eq, is_ne, is_lt, is_le, is_gt, is_ge}
use Rattle.hal_base.specs.declared.value.Value.{Value}
use Rattle.hal_base.specs.declared.value.Value.TheVariants.{Int, Text}
use Rattle.operations.specs.Applied.{applied, of_choice, of_cut, of_numbers, of_order, of_two_texts}
use Rattle.operations.specs.declared.operation.Operation.{Operation}
use Rattle.operations.specs.declared.operation.Operation.TheVariants.{Add, Sub, Mul, Div, Rem, Min, Max, Eq, Ne, Lt, Le, Gt, Ge, And, Or, Not, Cat, Len, Cut, Num, Txt, Pick}
use Rattle.function_eval.specs.declared.resolved.ResolvedExpr.{Row_of-ResolvedExpr, ResolvedExpr, end_of-ResolvedExpr, items-the_row-ResolvedExpr, items_hidden-the_row-ResolvedExpr-0, more_of-ResolvedExpr}
use Rattle.function_eval.specs.declared.resolved.ResolvedExpr.TheBlock.{hidden-the_row-ResolvedExpr-0}
use Rattle.function_eval.specs.declared.resolved.ResolvedExpr.TheVariants as a_resolved_expr
use Rattle.function_eval.specs.declared.machine.Stop.{Stop}
use Rattle.function_eval.specs.steps.Machine.{Gives, slot_call, slot_record}
use Rattle.function_meaning.specs.Optional.{◌>>=◌, all_of}
use Rattle.function_eval.specs.steps.Slots.{slot_value, slot_values}
use Rattle.function_meaning.specs.Statements.{record_of}

-- ---- rows and lists

-- the arguments of a row have the values of those of its list
pub values_of_row : (n : _) (round : Option ℕ) (slots : List Value) (row : Row_of-ResolvedExpr n) → slot_values round slots row ≡ map (slot_value round slots) (items-the_row-ResolvedExpr n row)
values_of_row n round slots end_of-ResolvedExpr = refl
values_of_row n round slots (more_of-ResolvedExpr arg args) = ap (◌∷◌ (slot_value round slots arg)) (values_of_row _ round slots args)

-- a call of these arguments has the value that its operation gives for theirs
pub call_is : (round : Option ℕ) (slots : List Value) (operation : Operation) (args : List ResolvedExpr) → slot_value round slots (a_resolved_expr.Call operation args) ≡ slot_call round slots operation args
call_is round slots operation args =
    ap (λ values. all_of values >>= applied operation) (values_of_row _ round slots (hidden-the_row-ResolvedExpr-0 args) ∙ ap (map (slot_value round slots)) (items_hidden-the_row-ResolvedExpr-0 args))

-- ---- how many arguments an operation takes

module _ (a b c d : Value) (others : List Value) where
  -- four values or more
  abbrev many : List Value
  many = a ∷ b ∷ c ∷ d ∷ others

-- no operation on numbers takes as many
many_numbers : (f : ℤ → ℤ → ℤ) (a b c d : Value) (others : List Value) → of_numbers f (many a b c d others) ≡ None
many_numbers f (Int a) (Int b) c d others = refl
many_numbers f (Int a) (Text b) c d others = refl
many_numbers f (Text a) b c d others = refl

-- nor does a comparison
many_order : (test : Ordering → Bool) (a b c d : Value) (others : List Value) → of_order test (many a b c d others) ≡ None
many_order test (Int a) (Int b) c d others = refl
many_order test (Int a) (Text b) c d others = refl
many_order test (Text a) (Int b) c d others = refl
many_order test (Text a) (Text b) c d others = refl

-- nor does the joining of texts
many_texts : (a b c d : Value) (others : List Value) → of_two_texts (many a b c d others) ≡ None
many_texts (Int a) b c d others = refl
many_texts (Text a) (Int b) c d others = refl
many_texts (Text a) (Text b) c d others = refl

-- nor does a cut
many_cut : (a b c d : Value) (others : List Value) → of_cut (many a b c d others) ≡ None
many_cut (Int a) b c d others = refl
many_cut (Text a) (Int b) (Int c) d others = refl
many_cut (Text a) (Int b) (Text c) d others = refl
many_cut (Text a) (Text b) c d others = refl

-- nor does a choice
many_choice : (a b c d : Value) (others : List Value) → of_choice (many a b c d others) ≡ None
many_choice (Int a) (Int b) (Int c) d others = refl
many_choice (Int a) (Int b) (Text c) d others = refl
many_choice (Int a) (Text b) (Int c) d others = refl
many_choice (Int a) (Text b) (Text c) d others = refl
many_choice (Text a) b c d others = refl

-- of four or more there is no value
of_many : (operation : Operation) (a b c d : Value) (others : List Value) → applied operation (many a b c d others) ≡ None
of_many Add a b c d others = many_numbers _ a b c d others
of_many Sub a b c d others = many_numbers _ a b c d others
of_many Mul a b c d others = many_numbers _ a b c d others
of_many Div a b c d others = many_numbers _ a b c d others
of_many Rem a b c d others = many_numbers _ a b c d others
of_many Min a b c d others = many_numbers _ a b c d others
of_many Max a b c d others = many_numbers _ a b c d others
of_many Eq a b c d others = many_order is_eq a b c d others
of_many Ne a b c d others = many_order is_ne a b c d others
of_many Lt a b c d others = many_order is_lt a b c d others
of_many Le a b c d others = many_order is_le a b c d others
of_many Gt a b c d others = many_order is_gt a b c d others
of_many Ge a b c d others = many_order is_ge a b c d others
of_many And a b c d others = many_numbers _ a b c d others
of_many Or a b c d others = many_numbers _ a b c d others
of_many Not (Int a) b c d others = refl
of_many Not (Text a) b c d others = refl
of_many Cat a b c d others = many_texts a b c d others
of_many Len (Int a) b c d others = refl
of_many Len (Text a) b c d others = refl
of_many Cut a b c d others = many_cut a b c d others
of_many Num (Int a) b c d others = refl
of_many Num (Text a) b c d others = refl
of_many Txt (Int a) b c d others = refl
of_many Txt (Text a) b c d others = refl
of_many Pick a b c d others = many_choice a b c d others

-- so there is none where some of them may be missing
many_of_all : (operation : Operation) (a b c d : Option Value) (others : Option (List Value)) → (a >>= λ a. (b >>= λ b. (c >>= λ c. (d >>= λ d. (others >>= λ others. Some (d ∷ others))) >>= λ others. Some (c ∷ others)) >>= λ others. Some (b ∷ others)) >>= λ others. Some (a ∷ others)) >>= applied operation ≡ None
many_of_all operation None b c d others = refl
many_of_all operation (Some a) None c d others = refl
many_of_all operation (Some a) (Some b) None d others = refl
many_of_all operation (Some a) (Some b) (Some c) None others = refl
many_of_all operation (Some a) (Some b) (Some c) (Some d) None = refl
many_of_all operation (Some a) (Some b) (Some c) (Some d) (Some others) = of_many operation a b c d others

-- a call of four arguments or more has no value
pub many_arguments : (round : Option ℕ) (slots : List Value) (operation : Operation) (args : List ResolvedExpr) → 3 < length args → slot_call round slots operation args ≡ None
many_arguments round slots operation [] some = absurd (omega arith)
many_arguments round slots operation (a ∷ []) some = absurd (omega arith)
many_arguments round slots operation (a ∷ b ∷ []) some = absurd (omega arith)
many_arguments round slots operation (a ∷ b ∷ c ∷ []) some = absurd (omega arith)
many_arguments round slots operation (a ∷ b ∷ c ∷ d ∷ others) some =
    many_of_all operation (slot_value round slots a) (slot_value round slots b) (slot_value round slots c) (slot_value round slots d) (all_of (map (slot_value round slots) others))

-- what a call gives, by the slice of its arguments
pub call_found : (round : Option ℕ) (slots : List Value) (e : ResolvedExpr) (operation : Operation) (args slice : List ResolvedExpr)
    → e ≡ a_resolved_expr.Call operation args → slice ≡ args → slot_call round slots operation slice ≡ slot_value round slots e
call_found round slots e operation args slice is same = ap (slot_call round slots operation) same ∙ sym (ap (slot_value round slots) is ∙ call_is round slots operation args)

-- a call's value
pub call_given : (round : Option ℕ) (slots : List Value) (e : ResolvedExpr) (operation : Operation) (args slice : List ResolvedExpr) (result : Result Value Stop)
    → e ≡ a_resolved_expr.Call operation args → slice ≡ args → Gives (slot_call round slots operation slice) result → Gives (slot_value round slots e) result
call_given round slots e operation args slice result is same gives = subst (λ found. Gives found result) (call_found round slots e operation args slice is same) gives

-- a call's number
pub call_number : (round : Option ℕ) (slots : List Value) (e : ResolvedExpr) (operation : Operation) (args slice : List ResolvedExpr) (result : Option ℤ)
    → e ≡ a_resolved_expr.Call operation args → slice ≡ args → IfSome result (λ n. slot_call round slots operation slice ≡ Some (Int n)) → IfSome result (λ n. slot_value round slots e ≡ Some (Int n))
call_number round slots e operation args slice result is same gives = subst (λ found. IfSome result (λ n. found ≡ Some (Int n))) (call_found round slots e operation args slice is same) gives

-- ---- records

-- so many, where none is missing
abbrev AreMany : {A : Type 0} → ℕ → Option (List A) → Type 0
AreMany n None = Unit {0}
AreMany n (Some all) = length all ≡ n

-- one more
one_more : {A : Type 0} (a : A) (n : ℕ) (others : Option (List A)) → AreMany n others → AreMany (suc n) (others >>= λ others. Some (a ∷ others))
one_more a n None so_many = tt
one_more a n (Some others) so_many = ap suc so_many

-- all of these are as many as these
as_many : {A : Type 0} (found : List (Option A)) → AreMany (length found) (all_of found)
as_many [] = refl
as_many (None ∷ others) = tt
as_many (Some a ∷ others) = one_more a (length others) (all_of others) (as_many others)

-- a key with more than seven others makes no record
too_many : (key : Value) (n : ℕ) (others : Option (List Value)) → 7 < n → AreMany n others → (others >>= λ others. Some (key ∷ others)) >>= record_of ≡ None
too_many key n None more so_many = refl
too_many key n (Some others) more so_many =
    let over : nat_le (length others) 7 ≡ false = grind (arith, nat_tests) in
    ap (λ b. cond b (Some (record { key = key; fields = others })) None) over

-- nor do a key that may be missing and more than seven others
too_many_found : (key : Option Value) (others : List (Option Value)) → 7 < length others → all_of (key ∷ others) >>= record_of ≡ None
too_many_found None others more = refl
too_many_found (Some key) others more = too_many key (length others) (all_of others) more (as_many others)

-- more than eight arguments make no record
pub too_many_arguments : (round : Option ℕ) (slots : List Value) (args : List ResolvedExpr) → 8 < length args → slot_record round slots args ≡ None
too_many_arguments round slots [] more = refl
too_many_arguments round slots (key ∷ others) more = too_many_found (slot_value round slots key) (map (slot_value round slots) others) (omega (arith, length-map others (slot_value round slots)))
