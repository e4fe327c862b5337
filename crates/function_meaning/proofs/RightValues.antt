-- Expressions of a kind have a value of that kind.
use Rattle.std.proofs.Common.{◌≡◌, ℕ, ◌==◌, ℤ, Bool, true, false, cond, List, [], ◌∷◌, Option, None, Some, option_map, Ok, Err, refl, sym, ap, ◌∙◌, subst, arith, length, map}
use Rattle.std.specs.Str.{bytes_eq}
use Rattle.std.specs.declared.cmp.Ordering.{Ordering}
use Rattle.std.specs.Ordering.{is_eq, is_ge, is_gt, is_le, is_lt, is_ne}
use Rattle.std.proofs.lemmas.Bool.{eqb-true}
use Rattle.hal_base.specs.declared.value.Kind.{Kind}
use Rattle.hal_base.specs.declared.value.Kind.TheVariants as kind
use Rattle.hal_base.specs.declared.value.Value.{Value}
use Rattle.hal_base.specs.declared.value.Value.TheVariants as value
use Rattle.hal_base.specs.Values.{kind_of}
use Rattle.function_language.specs.declared.tree.Expr.{Expr, Int, Text, Round, Name, Call', Row_of-Expr, end_of-Expr, more_of-Expr}
use Rattle.program_tokens.specs.declared.token.Ident.{Ident}
use Rattle.operations.specs.declared.operation.Operation.{Operation}
use Rattle.operations.specs.declared.operation.Operation.TheVariants as op
use Rattle.operations.specs.declared.operation.Wanted.{Wanted}
use Rattle.operations.specs.declared.operation.Wanted.TheVariants.{Of, Any, AsBefore}
use Rattle.operations.specs.Applied.{applied, is_true, of_choice, of_cut, of_number, of_numbers, of_order, of_text, of_two_texts}
use Rattle.operations.specs.Operations.{given, number, operation_named, text, wanted}
use Rattle.type_checker.specs.declared.fault.TypeFault.{TypeFault}
use Rattle.type_checker.specs.declared.scope.Known.{Known}
use Rattle.type_checker.specs.declared.scope.Setting.{Setting}
use Rattle.type_checker.specs.Checked.{Checked, fine}
use Rattle.type_checker.specs.Kinds.{args_judged, args_kind, kind_in, of_kind, same_kind, suits, takes}
use Rattle.type_checker.specs.Scopes.{kind_found, known}
use Rattle.type_checker.proofs.Binding.{bind_ok, then_ok}
use Rattle.function_meaning.specs.Expressions.{Named, args_values, called, looked_up, value_of}
use Rattle.function_meaning.specs.Optional.{◌>>=◌, all_of}

-- a value of this kind is there
abbrev pub IsA : Kind → Option Value → Type 0
IsA kind None = ⊥
IsA kind (Some v) = kind_of v ≡ kind

abbrev right : {A : Type 0} → A → Checked A
right a = Ok a

pub ok_same : {A : Type 0} {x y : A} → right x ≡ right y → x ≡ y
ok_same e = cc

-- a test that must hold
pub test_ok : {A : Type 0} (b : Bool) (x y : A) (fault : TypeFault) → cond b (Ok x) (Err fault) ≡ Ok y → (b ≡ true) × (x ≡ y)
test_ok true x y fault e = (refl, cc)
test_ok false x y fault e = absurd (no e)
  where
    no : Err fault ≡ Ok y → ⊥
    no e = cc

pub no_kind : {A : Type 0} → kind.Text ≡ kind.Int → A
no_kind e = absurd (no e)
  where
    no : kind.Text ≡ kind.Int → ⊥
    no e = cc

pub one_kind : (a b : Kind) → same_kind a b ≡ true → b ≡ a
one_kind kind.Int kind.Int e = refl
one_kind kind.Int kind.Text e = absurd (no e)
  where
    no : false ≡ true → ⊥
    no e = cc
one_kind kind.Text kind.Int e = absurd (no e)
  where
    no : false ≡ true → ⊥
    no e = cc
one_kind kind.Text kind.Text e = refl

pub kind_ok : (setting : Setting) (want : Kind) (line : ℕ) (got : Kind) → of_kind setting want line got ≡ fine → got ≡ want
kind_ok setting want line got e = one_kind want got (test_ok (same_kind want got) tt tt _ e).0

-- ---- arguments

-- an argument of this kind is what is wanted, behind one of that kind
abbrev Meets : Wanted → Kind → Kind → Type 0
Meets (Of want) before got = got ≡ want
Meets Any before got = Unit {0}
Meets AsBefore before got = got ≡ before

meets : (setting : Setting) (want : Wanted) (before : Kind) (line : ℕ) (got : Kind) → suits setting want before line got ≡ fine → Meets want before got
meets setting (Of want) before line got e = kind_ok setting want line got e
meets setting Any before line got e = tt
meets setting AsBefore before line got e = kind_ok setting before line got e

-- arguments of these kinds are what is wanted, and the last is of that kind
abbrev Suit : List Wanted → Kind → List Kind → Kind → Type 0
Suit [] before [] last = last ≡ before
Suit [] before (kind ∷ kinds) last = ⊥
Suit (want ∷ wants) before [] last = ⊥
Suit (want ∷ wants) before (kind ∷ kinds) last = Meets want before kind × Suit wants kind kinds last

numbers_right : (f : ℤ → ℤ → ℤ) (vs : List Value) (last : Kind) → Suit (number ∷ number ∷ []) kind.Int (map kind_of vs) last → IsA kind.Int (of_numbers f vs)
numbers_right f [] last s = absurd s
numbers_right f (a ∷ []) last s = absurd s.1
numbers_right f (value.Int a ∷ value.Int b ∷ []) last s = refl
numbers_right f (value.Int a ∷ value.Text b ∷ []) last s = no_kind s.1.0
numbers_right f (value.Text a ∷ b ∷ []) last s = no_kind s.0
numbers_right f (a ∷ b ∷ c ∷ vs) last s = absurd s.1.1

number_right : (k : Kind) (f : ℤ → Value) → ((n : ℤ) → kind_of (f n) ≡ k) → (vs : List Value) (last : Kind) → Suit (number ∷ []) kind.Int (map kind_of vs) last → IsA k (of_number f vs)
number_right k f h [] last s = absurd s
number_right k f h (value.Int a ∷ []) last s = h a
number_right k f h (value.Text a ∷ []) last s = no_kind s.0
number_right k f h (a ∷ b ∷ vs) last s = absurd s.1

text_right : (f : List ℕ → ℤ) (vs : List Value) (last : Kind) → Suit (text ∷ []) kind.Int (map kind_of vs) last → IsA kind.Int (of_text f vs)
text_right f [] last s = absurd s
text_right f (value.Int a ∷ []) last s = no_kind (sym s.0)
text_right f (value.Text a ∷ []) last s = refl
text_right f (a ∷ b ∷ vs) last s = absurd s.1

order_right : (test : Ordering → Bool) (vs : List Value) (last : Kind) → Suit (Any ∷ AsBefore ∷ []) kind.Int (map kind_of vs) last → IsA kind.Int (of_order test vs)
order_right test [] last s = absurd s
order_right test (a ∷ []) last s = absurd s.1
order_right test (value.Int a ∷ value.Int b ∷ []) last s = refl
order_right test (value.Int a ∷ value.Text b ∷ []) last s = no_kind s.1.0
order_right test (value.Text a ∷ value.Int b ∷ []) last s = no_kind (sym s.1.0)
order_right test (value.Text a ∷ value.Text b ∷ []) last s = refl
order_right test (a ∷ b ∷ c ∷ vs) last s = absurd s.1.1

texts_right : (vs : List Value) (last : Kind) → Suit (text ∷ text ∷ []) kind.Int (map kind_of vs) last → IsA kind.Text (of_two_texts vs)
texts_right [] last s = absurd s
texts_right (a ∷ []) last s = absurd s.1
texts_right (value.Int a ∷ b ∷ []) last s = no_kind (sym s.0)
texts_right (value.Text a ∷ value.Int b ∷ []) last s = no_kind (sym s.1.0)
texts_right (value.Text a ∷ value.Text b ∷ []) last s = refl
texts_right (a ∷ b ∷ c ∷ vs) last s = absurd s.1.1

cut_right : (vs : List Value) (last : Kind) → Suit (text ∷ number ∷ number ∷ []) kind.Int (map kind_of vs) last → IsA kind.Text (of_cut vs)
cut_right [] last s = absurd s
cut_right (a ∷ []) last s = absurd s.1
cut_right (a ∷ b ∷ []) last s = absurd s.1.1
cut_right (value.Int a ∷ b ∷ c ∷ []) last s = no_kind (sym s.0)
cut_right (value.Text a ∷ value.Text b ∷ c ∷ []) last s = no_kind s.1.0
cut_right (value.Text a ∷ value.Int b ∷ value.Text c ∷ []) last s = no_kind s.1.1.0
cut_right (value.Text a ∷ value.Int b ∷ value.Int c ∷ []) last s = refl
cut_right (a ∷ b ∷ c ∷ d ∷ vs) last s = absurd s.1.1.1

chosen_right : (b : Bool) (x y : Value) (k : Kind) → kind_of x ≡ k → kind_of y ≡ k → kind_of (cond b x y) ≡ k
chosen_right true x y k p q = p
chosen_right false x y k p q = q

choice_right : (vs : List Value) (last : Kind) → Suit (number ∷ Any ∷ AsBefore ∷ []) kind.Int (map kind_of vs) last → IsA last (of_choice vs)
choice_right [] last s = absurd s
choice_right (a ∷ []) last s = absurd s.1
choice_right (a ∷ b ∷ []) last s = absurd s.1.1
choice_right (value.Text a ∷ b ∷ c ∷ []) last s = no_kind s.0
choice_right (value.Int a ∷ value.Int b ∷ value.Int c ∷ []) last s = chosen_right (is_true a) (value.Int b) (value.Int c) last (sym s.1.1.1) (sym s.1.1.1)
choice_right (value.Int a ∷ value.Int b ∷ value.Text c ∷ []) last s = no_kind s.1.1.0
choice_right (value.Int a ∷ value.Text b ∷ value.Int c ∷ []) last s = no_kind (sym s.1.1.0)
choice_right (value.Int a ∷ value.Text b ∷ value.Text c ∷ []) last s = chosen_right (is_true a) (value.Text b) (value.Text c) last (sym s.1.1.1) (sym s.1.1.1)
choice_right (a ∷ b ∷ c ∷ d ∷ vs) last s = absurd s.1.1.1

-- an operation on what it wants gives a value of its kind
applied_right : (operation : Operation) (vs : List Value) (last : Kind) → Suit (wanted operation) kind.Int (map kind_of vs) last → IsA (given operation last) (applied operation vs)
applied_right op.Add vs last s = numbers_right _ vs last s
applied_right op.Sub vs last s = numbers_right _ vs last s
applied_right op.Mul vs last s = numbers_right _ vs last s
applied_right op.Div vs last s = numbers_right _ vs last s
applied_right op.Rem vs last s = numbers_right _ vs last s
applied_right op.Min vs last s = numbers_right _ vs last s
applied_right op.Max vs last s = numbers_right _ vs last s
applied_right op.Eq vs last s = order_right is_eq vs last s
applied_right op.Ne vs last s = order_right is_ne vs last s
applied_right op.Lt vs last s = order_right is_lt vs last s
applied_right op.Le vs last s = order_right is_le vs last s
applied_right op.Gt vs last s = order_right is_gt vs last s
applied_right op.Ge vs last s = order_right is_ge vs last s
applied_right op.And vs last s = numbers_right _ vs last s
applied_right op.Or vs last s = numbers_right _ vs last s
applied_right op.Not vs last s = number_right kind.Int _ (λ n. refl) vs last s
applied_right op.Cat vs last s = texts_right vs last s
applied_right op.Len vs last s = text_right _ vs last s
applied_right op.Cut vs last s = cut_right vs last s
applied_right op.Num vs last s = text_right _ vs last s
applied_right op.Txt vs last s = number_right kind.Text _ (λ n. refl) vs last s
applied_right op.Pick vs last s = choice_right vs last s

-- ---- names

-- each parameter and variable with its kind
abbrev pub known_kinds : List Known → Named Kind
known_kinds scope = map (λ (value : Known). (value.name, value.kind)) scope

-- each name with the kind of its value
abbrev pub value_kinds : Named Value → Named Kind
value_kinds pairs = map (λ (pair : List ℕ × Value). (pair.0, kind_of pair.1)) pairs

known_looked_up : (name : List ℕ) (scope : List Known) → option_map (λ (value : Known). value.kind) (known name scope) ≡ looked_up name (known_kinds scope)
known_looked_up name [] = refl
known_looked_up name (value ∷ scope) =
    elim (bytes_eq name value.name) as (λ b. option_map (λ (value : Known). value.kind) (cond b (Some value) (known name scope)) ≡ cond b (Some value.kind) (looked_up name (known_kinds scope))) [ true ↦ refl | false ↦ known_looked_up name scope ]

value_looked_up : (name : List ℕ) (pairs : Named Value) → option_map kind_of (looked_up name pairs) ≡ looked_up name (value_kinds pairs)
value_looked_up name [] = refl
value_looked_up name (pair ∷ pairs) =
    elim (bytes_eq name pair.0) as (λ b. option_map kind_of (cond b (Some pair.1) (looked_up name pairs)) ≡ cond b (Some (kind_of pair.1)) (looked_up name (value_kinds pairs))) [ true ↦ refl | false ↦ value_looked_up name pairs ]

named_right : (setting : Setting) (ident : Ident) (k : Kind) (value : Option Known) (v : Option Value) → option_map kind_of v ≡ option_map (λ (value : Known). value.kind) value → kind_found setting ident value ≡ Ok k → IsA k v
named_right setting ident k None v e h = absurd (no h)
  where
    no : kind_found setting ident None ≡ Ok k → ⊥
    no e = cc
named_right setting ident k (Some value) None e h = absurd (no e)
  where
    no : None ≡ Some value.kind → ⊥
    no e = cc
named_right setting ident k (Some value) (Some v) e h = cc

-- ---- expressions

-- where the round may stand, there is one
abbrev pub HasRound : Bool → Option ℕ → Type 0
HasRound may None = may ≡ false
HasRound may (Some round) = Unit {0}

round_right : (setting : Setting) (line : ℕ) (k : Kind) (round : Option ℕ) → HasRound setting.has_round round → kind_in setting [] (Round line) ≡ Ok k → IsA k (value_of round [] (Round line))
round_right setting line k None h e =
    absurd (no (sym (test_ok setting.has_round kind.Int k _ e).0 ∙ h))
  where
    no : true ≡ false → ⊥
    no e = cc
round_right setting line k (Some round) h e = (test_ok setting.has_round kind.Int k _ e).1

added_value : (o : Option Value) (rest : List (Option Value)) (want : Wanted) (wants : List Wanted) (before got last : Kind) → IsA got o → Meets want before got →
    ((vs : List Value) × (all_of rest ≡ Some vs) × Suit wants got (map kind_of vs) last) → (vs : List Value) × (all_of (o ∷ rest) ≡ Some vs) × Suit (want ∷ wants) before (map kind_of vs) last
added_value None rest want wants before got last is m found = absurd is
added_value (Some v) rest want wants before got last is m found =
    (v ∷ found.0, ap (λ o. o >>= (λ others. Some (v ∷ others))) found.1, (subst (Meets want before) (sym is) m, subst (λ kind. Suit wants kind (map kind_of found.0) last) (sym is) found.2))

call_right : (setting : Setting) (ident : Ident) (k : Kind) (o : Option Operation) (count : ℕ) (operation : Operation) → takes setting ident count o ≡ Ok operation → (o ≡ Some operation) × (length (wanted operation) ≡ count)
call_right setting ident k None count operation e = absurd (no e)
  where
    no : takes setting ident count None ≡ Ok operation → ⊥
    no e = cc
call_right setting ident k (Some other) count operation e =
    let t = test_ok (length (wanted other) == count) other operation _ e in
    (ap (λ o. Some o) t.1, ap (λ o. length (wanted o)) (sym t.1) ∙ eqb-true (length (wanted other)) count t.0)

given_right : (operation : Operation) (o : Option Operation) (values : List (Option Value)) (vs : List Value) (last : Kind) → o ≡ Some operation → all_of values ≡ Some vs → Suit (wanted operation) kind.Int (map kind_of vs) last →
    IsA (given operation last) (o >>= (λ op. all_of values >>= applied op))
given_right operation o values vs last is all s =
    subst (λ o. IsA (given operation last) (o >>= (λ op. all_of values >>= applied op))) (sym is)
    (subst (λ all. IsA (given operation last) (all >>= applied operation)) (sym all) (applied_right operation vs last s))

module _ (setting : Setting) (scope : List Known) (round : Option ℕ) (pairs : Named Value) (has : HasRound setting.has_round round) (fits : value_kinds pairs ≡ known_kinds scope) where
  mutual
    -- an expression that has a kind has a value of that kind
    pub kind_right : (e : Expr) (k : Kind) → kind_in setting scope e ≡ Ok k → IsA k (value_of round pairs e)
    kind_right (Int line n) k h = cc
    kind_right (Text line text) k h = cc
    kind_right (Round line) k h = round_right setting line k round has h
    kind_right (Name ident) k h =
        named_right setting ident k (known ident.text scope) (looked_up ident.text pairs)
        (value_looked_up ident.text pairs ∙ ap (looked_up ident.text) fits ∙ sym (known_looked_up ident.text scope)) h
    kind_right (Call' ident shape args) k h =
        let first = bind_ok (takes setting ident (length (args_judged setting scope args)) (operation_named ident.text)) _ k h in
        let taken = call_right setting ident k (operation_named ident.text) (length (args_judged setting scope args)) first.0 first.1 in
        let second = bind_ok (args_kind setting (wanted first.0) kind.Int (args_judged setting scope args)) _ k first.2 in
        let found = args_right args (wanted first.0) kind.Int second.0 second.1 taken.1 in
        subst (λ k. IsA k (called ident.text (args_values round pairs args))) (ok_same second.2)
        (given_right first.0 (operation_named ident.text) (args_values round pairs args) found.0 second.0 taken.0 found.1 found.2)

    args_right : {n : _} (args : Row_of-Expr n) (wants : List Wanted) (before last : Kind) → args_kind setting wants before (args_judged setting scope args) ≡ Ok last → length wants ≡ length (args_judged setting scope args) →
        (vs : List Value) × (all_of (args_values round pairs args) ≡ Some vs) × Suit wants before (map kind_of vs) last
    args_right end_of-Expr [] before last h e = ([], refl, sym (ok_same h))
    args_right end_of-Expr (want ∷ wants) before last h e = absurd (omega (arith, e))
    args_right (more_of-Expr arg args) [] before last h e = absurd (omega (arith, e))
    args_right (more_of-Expr arg args) (want ∷ wants) before last h e =
        let first = bind_ok (kind_in setting scope arg) _ last h in
        let second = then_ok (suits setting want before _ first.0) _ last first.2 in
        added_value (value_of round pairs arg) (args_values round pairs args) want wants before first.0 last
        (kind_right arg first.0 first.1) (meets setting want before _ first.0 second.1)
        (args_right args wants first.0 last second.2 (omega (arith, e)))
