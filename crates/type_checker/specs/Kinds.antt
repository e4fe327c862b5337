-- The kind of an expression, or its first fault.
use Rattle.std.specs.Prelude.{ℕ, ◌==◌, Bool, true, false, cond, List, [], ◌∷◌, Option, None, Some, Ok, Err, length}
use Rattle.hal_base.specs.declared.value.Kind.{Kind}
use Rattle.hal_base.specs.declared.value.Kind.TheVariants as kind
use Rattle.program_tokens.specs.declared.token.Ident.{Ident}
use Rattle.function_language.specs.declared.tree.Expr.{Expr, Int, Text, Round, Name, Call', Row_of-Expr, end_of-Expr, more_of-Expr}
use Rattle.operations.specs.declared.operation.Operation.{Operation}
use Rattle.operations.specs.declared.operation.Wanted.{Wanted}
use Rattle.operations.specs.declared.operation.Wanted.TheVariants.{Of, Any, AsBefore}
use Rattle.operations.specs.Operations.{given, operation_named, wanted}
use Rattle.type_checker.specs.declared.fault.TypeFault.TheVariants.{UnknownName, WrongCount, WrongKind}
use Rattle.type_checker.specs.declared.scope.Known.{Known}
use Rattle.type_checker.specs.declared.scope.Setting.{Setting}
use Rattle.type_checker.specs.Checked.{Checked, fine, ◌>>=◌, ◌>>◌}
use Rattle.type_checker.specs.Scopes.{kind_found, known}

-- whether two kinds are one
abbrev pub same_kind : Kind → Kind → Bool
same_kind kind.Int kind.Int = true
same_kind kind.Int kind.Text = false
same_kind kind.Text kind.Int = false
same_kind kind.Text kind.Text = true

-- the line of the first token of an expression
abbrev pub line_of : Expr → ℕ
line_of (Int line value) = line
line_of (Text line value) = line
line_of (Round line) = line
line_of (Name ident) = ident.line
line_of (Call' ident shape args) = ident.line

-- an expression: the line of its first token, and its kind or its first fault
abbrev pub Judged : Type 0
Judged = ℕ × Checked Kind

-- what stands in this line is of the kind that the place asks for
abbrev pub of_kind : Setting → Kind → ℕ → Kind → Checked (Unit {0})
of_kind setting want line got = cond (same_kind want got) fine (Err (WrongKind setting.function line want got))

-- an argument is what is wanted, the one before being of this kind
abbrev pub suits : Setting → Wanted → Kind → ℕ → Kind → Checked (Unit {0})
suits setting (Of want) before line got = of_kind setting want line got
suits setting Any before line got = fine
suits setting AsBefore before line got = of_kind setting before line got

-- the kind of the last argument, where each is what is wanted of it; the first comes behind one of this kind
abbrev pub args_kind : Setting → List Wanted → Kind → List Judged → Checked Kind
args_kind setting [] before args = Ok before
args_kind setting (want ∷ wants) before [] = Ok before
args_kind setting (want ∷ wants) before (arg ∷ args) = do
  got ← arg.1
  suits setting want before arg.0 got
  args_kind setting wants got args

-- an operation takes so many arguments
abbrev pub takes : Setting → Ident → ℕ → Option Operation → Checked Operation
takes setting ident count None = Err (UnknownName setting.function ident.line)
takes setting ident count (Some operation) = cond (length (wanted operation) == count) (Ok operation) (Err (WrongCount setting.function ident.line))

-- a call by this name with these arguments
abbrev pub call_kind : Setting → Ident → List Judged → Checked Kind
call_kind setting ident args = do
  operation ← takes setting ident (length args) (operation_named ident.text)
  last ← args_kind setting (wanted operation) kind.Int args
  Ok (given operation last)

-- an expression
abbrev mutual
  pub kind_in : Setting → List Known → Expr → Checked Kind
  kind_in setting scope (Int line value) = Ok kind.Int
  kind_in setting scope (Text line value) = Ok kind.Text
  kind_in setting scope (Round line) = cond setting.has_round (Ok kind.Int) (Err (UnknownName setting.function line))
  kind_in setting scope (Name ident) = kind_found setting ident (known ident.text scope)
  kind_in setting scope (Call' ident shape args) = call_kind setting ident (args_judged setting scope args)

  -- each argument of a call
  pub args_judged : {n : _} → Setting → List Known → Row_of-Expr n → List Judged
  args_judged setting scope end_of-Expr = []
  args_judged setting scope (more_of-Expr arg args) = (line_of arg, kind_in setting scope arg) ∷ args_judged setting scope args

-- an expression by itself
abbrev pub judged : Setting → List Known → Expr → Judged
judged setting scope expr = (line_of expr, kind_in setting scope expr)

-- an expression of the kind that its place asks for
abbrev pub is_of_kind : Setting → List Known → Kind → Expr → Checked (Unit {0})
is_of_kind setting scope want expr = do
  got ← kind_in setting scope expr
  of_kind setting want (line_of expr) got
