-- What the definitions give for operations and for a function, as it was computed by hand.
use Rattle.std.specs.Prelude.{◌≡◌, ℕ, zero, suc, ℤ, pos, negsuc, List, [], ◌∷◌, Some, codes}
use Rattle.hal_base.specs.declared.value.Kind.TheVariants as kind
use Rattle.hal_base.specs.declared.value.Value.TheVariants as value
use Rattle.function_language.specs.declared.tree.Expr.{Expr, Int, Name, Call', end_of-Expr, more_of-Expr}
use Rattle.function_language.specs.declared.tree.Function.{Function}
use Rattle.function_language.specs.declared.tree.Function.TheVariants.{Reduce}
use Rattle.program_tokens.specs.declared.token.Ident.{Ident}
use Rattle.function_language.specs.declared.tree.Statement.{Statement, Let, Set, For', Emit, end_of-Statement, more_of-Statement}
use Rattle.function_language.specs.declared.tree.Stream.{Stream}
use Rattle.operations.specs.Applied.{applied}
use Rattle.operations.specs.declared.operation.Operation.{Operation}
use Rattle.operations.specs.declared.operation.Operation.TheVariants.{Add, Sub, Mul, Div, Rem, Cut}
use Rattle.type_checker.specs.Functions.{AreTyped}
use Rattle.function_meaning.specs.Functions.{reduce_emits}

-- a number below 0, or 0
abbrev pub minus : ℕ → ℤ
minus zero = pos 0
minus (suc n) = negsuc n

-- the greatest number of 64 bits
abbrev pub greatest : ℤ
greatest = pos 9223372036854775807

-- the least number of 64 bits
abbrev pub lowest : ℤ
lowest = minus 9223372036854775808

-- an operation gives this number for two numbers
abbrev pub OfNumbers : Operation → ℤ → ℤ → ℤ → Type 0
OfNumbers operation a b c = applied operation (value.Int a ∷ value.Int b ∷ []) ≡ Some (value.Int c)

-- a name in the first line
abbrev pub ident : List ℕ → Ident
ident text = record { text = text; line = 1 }

-- `add` of two expressions
abbrev pub sum : Expr → Expr → Expr
sum a b = Call' (ident (codes "add")) (tt ∷ tt ∷ []) (more_of-Expr a (more_of-Expr b end_of-Expr))

-- a stream of numbers
abbrev pub numbers : List ℕ → Stream
numbers name = record { name = ident name; kinds = kind.Int ∷ [] }

-- `let n = 0; for (x) in t { set n = add(n, 1); } emit(add(k, 10), n);`
abbrev pub counting : List Statement
counting =
    Let (ident (codes "n")) (Int 1 (pos 0))
    ∷ For' (ident (codes "x") ∷ []) (ident (codes "t")) (tt ∷ []) (more_of-Statement (Set (ident (codes "n")) (sum (Name (ident (codes "n"))) (Int 1 (pos 1)))) end_of-Statement)
    ∷ Emit 1 (sum (Name (ident (codes "k"))) (Int 1 (pos 10)) ∷ Name (ident (codes "n")) ∷ [])
    ∷ []

-- `reduce count(k: int; s: (int), t: (int)) -> (int, int)`
abbrev pub count : Function
count = Reduce (ident (codes "count")) (record { name = ident (codes "k"); kind = kind.Int }) (numbers (codes "s") ∷ numbers (codes "t") ∷ []) 1 (record { kinds = kind.Int ∷ kind.Int ∷ [] }) counting

-- what operations give, and what a reduce that counts emits
pub record WorkedVectors : Type 0 where
  pub sum_at_the_end : OfNumbers Add greatest (pos 1) greatest
  pub difference_at_the_end : OfNumbers Sub lowest (pos 1) lowest
  pub product_at_the_end : OfNumbers Mul greatest (minus 2) lowest
  pub quotient : OfNumbers Div (minus 7) (pos 2) (minus 3)
  pub quotient_at_the_end : OfNumbers Div lowest (minus 1) greatest
  pub quotient_by_0 : OfNumbers Div (pos 7) (pos 0) (pos 0)
  pub remainder : OfNumbers Rem (minus 7) (pos 2) (minus 1)
  pub remainder_by_a_negative : OfNumbers Rem (pos 7) (minus 2) (pos 1)
  pub part_of_a_text : applied Cut (value.Text (codes "hadoop") ∷ value.Int (pos 2) ∷ value.Int (pos 3) ∷ []) ≡ Some (value.Text (codes "doo"))
  pub count_is_right : AreTyped (count ∷ [])
  pub counted : reduce_emits 1 count (value.Int (pos 1)) ([] ∷ ((value.Int (pos 2) ∷ []) ∷ (value.Int (pos 3) ∷ []) ∷ []) ∷ []) ≡ Some (record { key = value.Int (pos 11); fields = value.Int (pos 2) ∷ [] } ∷ [])
