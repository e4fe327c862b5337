-- How calls and statements are spelled, by the lists of what they hold, for the contracts of private steps alone.
use Rattle.std.specs.Prelude.{ℕ, pred, Option, None, Some, List, [], ◌∷◌, ◌++◌, map, codes}
use Rattle.function_language.specs.declared.tree.Expr.{Expr}
use Rattle.program_tokens.specs.declared.token.Ident.{Ident}
use Rattle.function_language.specs.declared.tree.Statement.{Statement}
use Rattle.program_tokens.specs.Pieces.{Piece, name, plain}
use Rattle.function_language.specs.Spelled.{block_pieces, expr_pieces, idents_pieces, opened}
use Rattle.program_tokens.specs.Pieces.{in_parentheses, comma_separated}

-- what stands behind the name of a call
abbrev pub call_pieces : ℕ → List Expr → List Piece
call_pieces depth args = opened depth (codes "(") ∷ comma_separated (map (expr_pieces (pred depth)) args) ++ plain (codes ")") ∷ []

-- a `let` or a `set`, by its word
abbrev pub binding_pieces : ℕ → List ℕ → Ident → Expr → List Piece
binding_pieces depth word ident value = plain word ∷ name ident ∷ plain (codes "=") ∷ expr_pieces depth value ++ plain (codes ";") ∷ []

-- what stands behind the block of an `if`
abbrev pub other_pieces : ℕ → Option (List Statement) → List Piece
other_pieces depth None = []
other_pieces depth (Some other) = plain (codes "else") ∷ block_pieces depth other

-- an `if`
abbrev pub if_pieces : ℕ → Expr → List Statement → Option (List Statement) → List Piece
if_pieces depth test chosen other = plain (codes "if") ∷ plain (codes "(") ∷ expr_pieces depth test ++ plain (codes ")") ∷ (block_pieces depth chosen ++ other_pieces depth other)

-- a `for`
abbrev pub for_pieces : ℕ → List Ident → Ident → List Statement → List Piece
for_pieces depth idents stream body = plain (codes "for") ∷ in_parentheses (comma_separated (idents_pieces idents)) ++ plain (codes "in") ∷ name stream ∷ block_pieces depth body
