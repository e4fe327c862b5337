-- What expressions give over values is a value.
use Rattle.std.proofs.Common.{ℕ, ◌≤◌, true, false, cond, List, [], ◌∷◌, Option, None, Some, option_map, IfSome, FitsSigned, arith, map, w64}
use Rattle.std.specs.List.{AllByRecursion}
use Rattle.std.specs.Str.{bytes_eq}
use Rattle.hal_base.specs.declared.value.Value.{Value}
use Rattle.hal_base.specs.declared.value.Value.TheVariants as value
use Rattle.hal_base.specs.Values.{IsValue}
use Rattle.function_language.specs.declared.tree.Expr.{Expr, Int, Text, Round, Name, Call', Row_of-Expr, end_of-Expr, more_of-Expr}
use Rattle.operations.specs.Applied.{applied}
use Rattle.operations.specs.Operations.{operation_named}
use Rattle.operations.proofs.GivenValues.{applied_values}
use Rattle.function_meaning.specs.Expressions.{Named, args_values, as_number, called, looked_up, number_of, paired, round_value, value_of}
use Rattle.function_meaning.specs.Optional.{◌>>=◌, all_of}
use Rattle.function_meaning.proofs.LiteralValues.{ValuesIn, ValuesInArgs}

-- ---- what may be missing

pub some_then : {A B : Type 0} {P : A → Type 0} (Q : B → Type 0) (o : Option A) (k : A → Option B) → IfSome o P → ((a : A) → P a → IfSome (k a) Q) → IfSome (o >>= k) Q
some_then Q None k p h = tt
some_then Q (Some a) k p h = h a p

pub some_made : {A B : Type 0} {P : A → Type 0} (Q : B → Type 0) (o : Option A) (f : A → B) → IfSome o P → ((a : A) → P a → Q (f a)) → IfSome (option_map f o) Q
some_made Q None f p h = tt
some_made Q (Some a) f p h = h a p

any : {A : Type 0} (o : Option A) → IfSome o (λ _. Unit {0})
any None = tt
any (Some a) = tt

pub all_there : {A : Type 0} (P : A → Type 0) (os : List (Option A)) → AllByRecursion (λ o. IfSome o P) os → IfSome (all_of os) (AllByRecursion P)
all_there P [] all = tt
all_there P (o ∷ os) all = some_then (AllByRecursion P) o _ all.0 (λ a p. some_then (AllByRecursion P) (all_of os) _ (all_there P os all.1) (λ as_ ps. (p, ps)))

-- ---- names

-- what each name has holds this
abbrev pub EachHas : {A : Type 0} → (A → Type 0) → Named A → Type 0
EachHas P pairs = AllByRecursion (λ (pair : List ℕ × _). P pair.1) pairs

pub looked_up_has : {A : Type 0} (P : A → Type 0) (name : List ℕ) (pairs : Named A) → EachHas P pairs → IfSome (looked_up name pairs) P
looked_up_has P name [] all = tt
looked_up_has P name (pair ∷ pairs) all = elim (bytes_eq name pair.0) as (λ b. IfSome (cond b (Some pair.1) (looked_up name pairs)) P) [ true ↦ all.0 | false ↦ looked_up_has P name pairs all.1 ]

pub paired_has : {A : Type 0} (P : A → Type 0) (names : List (List ℕ)) (as_ : List A) → AllByRecursion P as_ → IfSome (paired names as_) (EachHas P)
paired_has P [] [] all = tt
paired_has P [] (a ∷ as_) all = tt
paired_has P (name ∷ names) [] all = tt
paired_has P (name ∷ names) (a ∷ as_) all = some_made (EachHas P) (paired names as_) _ (paired_has P names as_ all.1) (λ pairs rest. (all.0, rest))

-- ---- expressions

-- a round is one that a program may have
abbrev pub IsRoundOf : Option ℕ → Type 0
IsRoundOf round = IfSome round (λ n. n ≤ 10000)

called_gives : (name : List ℕ) (args : List (Option Value)) → AllByRecursion (λ o. IfSome o IsValue) args → IfSome (called name args) IsValue
called_gives name args all = some_then IsValue (operation_named name) _ (any (operation_named name)) (λ operation u. some_then IsValue (all_of args) (applied operation) (all_there IsValue args all) (λ values each. applied_values operation values each))

module _ (round : Option ℕ) (pairs : Named Value) (is_round : IsRoundOf round) (all : EachHas IsValue pairs) where
  mutual
    pub value_gives : (e : Expr) → ValuesIn e → IfSome (value_of round pairs e) IsValue
    value_gives (Int line n) v = v
    value_gives (Text line text) v = v
    value_gives (Round line) v = some_made IsValue round round_value is_round (λ n few. record { sfits = omega arith })
    value_gives (Name ident) v = looked_up_has IsValue ident.text pairs all
    value_gives (Call' ident shape args) v = called_gives ident.text (args_values round pairs args) (args_give args v)

    args_give : {n : _} (args : Row_of-Expr n) → ValuesInArgs args → AllByRecursion (λ o. IfSome o IsValue) (args_values round pairs args)
    args_give end_of-Expr v = tt
    args_give (more_of-Expr arg args) v = (value_gives arg v.0, args_give args v.1)

  pub values_give : (args : List Expr) → AllByRecursion ValuesIn args → AllByRecursion (λ o. IfSome o IsValue) (map (value_of round pairs) args)
  values_give [] v = tt
  values_give (arg ∷ args) v = (value_gives arg v.0, values_give args v.1)

  pub number_gives : (e : Expr) → ValuesIn e → IfSome (number_of round pairs e) (FitsSigned w64)
  number_gives e v = some_then (FitsSigned w64) (value_of round pairs e) as_number (value_gives e v) one
    where
      one : (v : Value) → IsValue v → IfSome (as_number v) (FitsSigned w64)
      one (value.Int n) f = f
      one (value.Text text) f = tt
