-- The operations: their names, what they want of their arguments, and the kind of what they give.
use Rattle.std.specs.Prelude.{ℕ, cond, List, [], ◌∷◌, Option, None, Some, codes}
use Rattle.std.specs.Str.{bytes_eq}
use Rattle.hal_base.specs.declared.value.Kind.{Kind}
use Rattle.hal_base.specs.declared.value.Kind.TheVariants as kind
use Rattle.operations.specs.declared.operation.Operation.{Operation}
use Rattle.operations.specs.declared.operation.Operation.TheVariants.{Add, Sub, Mul, Div, Rem, Min, Max, Eq, Ne, Lt, Le, Gt, Ge, And, Or, Not, Cat, Len, Cut, Num, Txt, Pick}
use Rattle.operations.specs.declared.operation.Wanted.{Wanted}
use Rattle.operations.specs.declared.operation.Wanted.TheVariants.{Of, Any, AsBefore}

-- the first of these pairs with this name
abbrev pub named : List ℕ → List (List ℕ × Operation) → Option Operation
named name [] = None
named name (pair ∷ pairs) = cond (bytes_eq name pair.0) (Some pair.1) (named name pairs)

-- each operation with its name
abbrev pub names : List (List ℕ × Operation)
names =
    (codes "add", Add) ∷ (codes "sub", Sub) ∷ (codes "mul", Mul) ∷ (codes "div", Div) ∷ (codes "rem", Rem) ∷ (codes "min", Min) ∷ (codes "max", Max)
    ∷ (codes "eq", Eq) ∷ (codes "ne", Ne) ∷ (codes "lt", Lt) ∷ (codes "le", Le) ∷ (codes "gt", Gt) ∷ (codes "ge", Ge)
    ∷ (codes "and", And) ∷ (codes "or", Or) ∷ (codes "not", Not)
    ∷ (codes "cat", Cat) ∷ (codes "len", Len) ∷ (codes "cut", Cut) ∷ (codes "num", Num) ∷ (codes "txt", Txt) ∷ (codes "pick", Pick) ∷ []

-- the operation of this name, if there is one
unfoldable pub operation_named : List ℕ → Option Operation
operation_named name = named name names

-- a number
abbrev pub number : Wanted
number = Of kind.Int

-- a text
abbrev pub text : Wanted
text = Of kind.Text

-- what an operation wants of each of its arguments
abbrev pub wanted : Operation → List Wanted
wanted Add = number ∷ number ∷ []
wanted Sub = number ∷ number ∷ []
wanted Mul = number ∷ number ∷ []
wanted Div = number ∷ number ∷ []
wanted Rem = number ∷ number ∷ []
wanted Min = number ∷ number ∷ []
wanted Max = number ∷ number ∷ []
wanted Eq = Any ∷ AsBefore ∷ []
wanted Ne = Any ∷ AsBefore ∷ []
wanted Lt = Any ∷ AsBefore ∷ []
wanted Le = Any ∷ AsBefore ∷ []
wanted Gt = Any ∷ AsBefore ∷ []
wanted Ge = Any ∷ AsBefore ∷ []
wanted And = number ∷ number ∷ []
wanted Or = number ∷ number ∷ []
wanted Not = number ∷ []
wanted Cat = text ∷ text ∷ []
wanted Len = text ∷ []
wanted Cut = text ∷ number ∷ number ∷ []
wanted Num = text ∷ []
wanted Txt = number ∷ []
wanted Pick = number ∷ Any ∷ AsBefore ∷ []

-- the kind of what an operation gives, where its last argument is of this kind
abbrev pub given : Operation → Kind → Kind
given Add last = kind.Int
given Sub last = kind.Int
given Mul last = kind.Int
given Div last = kind.Int
given Rem last = kind.Int
given Min last = kind.Int
given Max last = kind.Int
given Eq last = kind.Int
given Ne last = kind.Int
given Lt last = kind.Int
given Le last = kind.Int
given Gt last = kind.Int
given Ge last = kind.Int
given And last = kind.Int
given Or last = kind.Int
given Not last = kind.Int
given Cat last = kind.Text
given Len last = kind.Int
given Cut last = kind.Text
given Num last = kind.Int
given Txt last = kind.Text
given Pick last = last
