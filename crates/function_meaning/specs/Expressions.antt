-- The values of expressions, under a list of names with their values.
use Rattle.std.specs.Prelude.{ℕ, ℤ, pos, cond, List, [], ◌∷◌, Option, None, Some, option_map}
use Rattle.std.specs.Str.{bytes_eq}
use Rattle.hal_base.specs.declared.value.Value.{Value}
use Rattle.hal_base.specs.declared.value.Value.TheVariants as value
use Rattle.function_language.specs.declared.tree.Expr.{Expr, Int, Text, Round, Name, Call', Row_of-Expr, end_of-Expr, more_of-Expr}
use Rattle.operations.specs.Applied.{applied}
use Rattle.operations.specs.Operations.{operation_named}
use Rattle.function_meaning.specs.Optional.{◌>>=◌, all_of}

-- names, each with something
abbrev pub Named : Type 0 → Type 0
Named A = List (List ℕ × A)

-- what the first of this name has
abbrev pub looked_up : {A : Type 0} → List ℕ → Named A → Option A
looked_up name [] = None
looked_up name (pair ∷ pairs) = cond (bytes_eq name pair.0) (Some pair.1) (looked_up name pairs)

-- the names, where there are as many as there are things
abbrev pub paired : {A : Type 0} → List (List ℕ) → List A → Option (Named A)
paired [] [] = Some []
paired [] (a ∷ as_) = None
paired (name ∷ names) [] = None
paired (name ∷ names) (a ∷ as_) = option_map (λ pairs. (name, a) ∷ pairs) (paired names as_)

-- the round as a number
abbrev pub round_value : ℕ → Value
round_value round = value.Int (pos round)

-- the operation of this name for these arguments, all of which are evaluated
abbrev pub called : List ℕ → List (Option Value) → Option Value
called name args = do
  operation ← operation_named name
  values ← all_of args
  applied operation values

-- an expression in a round, if there is one; nothing where a name is not known, or an argument is missing or of the wrong kind
abbrev mutual
  pub value_of : Option ℕ → Named Value → Expr → Option Value
  value_of round names (Int line n) = Some (value.Int n)
  value_of round names (Text line text) = Some (value.Text text)
  value_of round names (Round line) = option_map round_value round
  value_of round names (Name ident) = looked_up ident.text names
  value_of round names (Call' ident shape args) = called ident.text (args_values round names args)

  -- each argument of a call
  pub args_values : {n : _} → Option ℕ → Named Value → Row_of-Expr n → List (Option Value)
  args_values round names end_of-Expr = []
  args_values round names (more_of-Expr arg args) = value_of round names arg ∷ args_values round names args

-- a value that is a number
abbrev pub as_number : Value → Option ℤ
as_number (value.Int n) = Some n
as_number (value.Text text) = None

-- an expression whose value is a number
abbrev pub number_of : Option ℕ → Named Value → Expr → Option ℤ
number_of round names expr = do
  v ← value_of round names expr
  as_number v
