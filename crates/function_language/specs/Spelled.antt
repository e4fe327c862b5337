-- How functions are spelled: what stands at each place of their text. The number is how many blocks and calls may still open inside.
use Rattle.std.specs.Prelude.{ℕ, zero, suc, pred, List, [], ◌∷◌, ◌++◌, map, codes}
use Rattle.std.specs.List.{AllByRecursion, flat_map}
use Rattle.program_tokens.specs.declared.token.Ident.{Ident}
use Rattle.function_language.specs.declared.tree.Param.{Param}
use Rattle.function_language.specs.declared.tree.Row.{Row}
use Rattle.function_language.specs.declared.tree.Stream.{Stream}
use Rattle.function_language.specs.declared.tree.Expr.{Expr, Int, Text, Round, Name, Call', Row_of-Expr, end_of-Expr, more_of-Expr}
use Rattle.function_language.specs.declared.tree.Statement.{Statement, Let, Set, If', For', Emit, Give, Row_of-Statement, end_of-Statement, more_of-Statement, Held-Statement-If-2, None', Some'}
use Rattle.function_language.specs.declared.tree.Function.{Function}
use Rattle.function_language.specs.declared.tree.Function.TheVariants.{Map, Reduce, Distance, Partition}
use Rattle.program_tokens.specs.Pieces.{IsPlace, Piece, comma_separated, in_parentheses, kind_pieces, kinds_pieces, plain, placed, name, int, quoted, end, nothing, some_comma_separated}

-- the mark that opens a block or a call, where one more may open
abbrev pub opened : ℕ → List ℕ → Piece
opened zero mark = nothing
opened (suc depth) mark = plain mark

-- an expression
abbrev mutual
  pub expr_pieces : ℕ → Expr → List Piece
  expr_pieces depth (Int line value) = int (record { value = value; line = line }) ∷ []
  expr_pieces depth (Text line value) = quoted value line ∷ []
  expr_pieces depth (Round line) = placed (codes "round") line ∷ []
  expr_pieces depth (Name ident) = name ident ∷ []
  expr_pieces depth (Call' ident shape args) = name ident ∷ opened depth (codes "(") ∷ comma_separated (args_pieces (pred depth) args) ++ plain (codes ")") ∷ []

  -- each argument of a call
  pub args_pieces : {n : _} → ℕ → Row_of-Expr n → List (List Piece)
  args_pieces depth end_of-Expr = []
  args_pieces depth (more_of-Expr arg args) = expr_pieces depth arg ∷ args_pieces depth args

-- names
abbrev pub idents_pieces : List Ident → List (List Piece)
idents_pieces idents = map (λ ident. name ident ∷ []) idents

-- a block, given what its statements are
abbrev pub block_of : ℕ → List Piece → List Piece
block_of depth statements = opened depth (codes "{") ∷ statements ++ plain (codes "}") ∷ []

-- a statement
abbrev mutual
  pub statement_pieces : ℕ → Statement → List Piece
  statement_pieces depth (Let ident value) = plain (codes "let") ∷ name ident ∷ plain (codes "=") ∷ expr_pieces depth value ++ plain (codes ";") ∷ []
  statement_pieces depth (Set ident value) = plain (codes "set") ∷ name ident ∷ plain (codes "=") ∷ expr_pieces depth value ++ plain (codes ";") ∷ []
  statement_pieces depth (If' test shape chosen other) = plain (codes "if") ∷ in_parentheses (expr_pieces depth test) ++ block_of depth (row_pieces (pred depth) chosen) ++ else_pieces depth other
  statement_pieces depth (For' idents stream shape body) = plain (codes "for") ∷ in_parentheses (comma_separated (idents_pieces idents)) ++ plain (codes "in") ∷ name stream ∷ block_of depth (row_pieces (pred depth) body)
  statement_pieces depth (Emit line args) = placed (codes "emit") line ∷ in_parentheses (comma_separated (map (expr_pieces depth) args)) ++ plain (codes ";") ∷ []
  statement_pieces depth (Give line value) = placed (codes "give") line ∷ in_parentheses (expr_pieces depth value) ++ plain (codes ";") ∷ []

  -- what stands behind the block of an `if`
  pub else_pieces : ℕ → Held-Statement-If-2 → List Piece
  else_pieces depth None' = []
  else_pieces depth (Some' shape other) = plain (codes "else") ∷ block_of depth (row_pieces (pred depth) other)

  -- the statements of an inner block
  pub row_pieces : {n : _} → ℕ → Row_of-Statement n → List Piece
  row_pieces depth end_of-Statement = []
  row_pieces depth (more_of-Statement statement statements) = statement_pieces depth statement ++ row_pieces depth statements

-- a block
abbrev pub block_pieces : ℕ → List Statement → List Piece
block_pieces depth statements = block_of depth (flat_map (statement_pieces (pred depth)) statements)

-- a parameter
abbrev pub param_pieces : Param → List Piece
param_pieces param = name param.name ∷ plain (codes ":") ∷ kind_pieces param.kind

-- a stream
abbrev pub stream_pieces : Stream → List Piece
stream_pieces stream = name stream.name ∷ plain (codes ":") ∷ kinds_pieces stream.kinds

-- what a function emits, behind an arrow in this line, and its body, of which 32 blocks and calls may be open
abbrev pub out_pieces : ℕ → Row → List Statement → List Piece
out_pieces arrow out body = placed (codes "->") arrow ∷ kinds_pieces out.kinds ++ block_pieces 32 body

-- a function
abbrev pub function_pieces : Function → List Piece
function_pieces (Map ident params arrow out body) = plain (codes "map") ∷ name ident ∷ in_parentheses (some_comma_separated (map param_pieces params)) ++ out_pieces arrow out body
function_pieces (Reduce ident key streams arrow out body) =
    plain (codes "reduce") ∷ name ident ∷ in_parentheses (param_pieces key ++ plain (codes ";") ∷ some_comma_separated (map stream_pieces streams)) ++ out_pieces arrow out body
function_pieces (Distance ident key before after body) =
    plain (codes "distance") ∷ name ident ∷ in_parentheses (param_pieces key ++ plain (codes ";") ∷ stream_pieces before ++ plain (codes ",") ∷ stream_pieces after) ++ block_pieces 32 body
function_pieces (Partition ident key body) = plain (codes "partition") ∷ name ident ∷ in_parentheses (param_pieces key) ++ block_pieces 32 body

-- functions, one after another
abbrev pub functions_pieces : List Function → List Piece
functions_pieces functions = flat_map function_pieces functions

-- the functions have all that the grammar asks for, no more than 32 blocks and calls are open in them, and their numbers and texts are values
abbrev pub CanBeSpelled : List Function → Type 0
CanBeSpelled functions = AllByRecursion IsPlace (functions_pieces functions)

-- functions alone, to the end of the text
abbrev pub only_functions_pieces : List Function → List Piece
only_functions_pieces functions = functions_pieces functions ++ end ∷ []
