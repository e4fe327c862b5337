-- How functions are printed: each on a line of its own.
use Rattle.std.specs.Prelude.{ℕ, ◌+◌, List, [], ◌∷◌, map}
use Rattle.program_tokens.specs.declared.token.Lexeme.{Lexeme}
use Rattle.program_tokens.specs.Tokens.{printed}
use Rattle.function_language.specs.declared.tree.Expr.{Expr, Int, Text, Round, Name, Call', Row_of-Expr, end_of-Expr, more_of-Expr}
use Rattle.function_language.specs.declared.tree.Function.{Function}
use Rattle.function_language.specs.declared.tree.Function.TheVariants.{Map, Reduce, Distance, Partition}
use Rattle.program_tokens.specs.declared.token.Ident.{Ident}
use Rattle.function_language.specs.declared.tree.Param.{Param}
use Rattle.function_language.specs.declared.tree.Statement.{Statement, Let, Set, If', For', Emit, Give, Row_of-Statement, end_of-Statement, more_of-Statement, Held-Statement-If-2, None', Some'}
use Rattle.function_language.specs.declared.tree.Stream.{Stream}
use Rattle.program_tokens.specs.Pieces.{lexeme_of}
use Rattle.function_language.specs.Spelled.{CanBeSpelled, function_pieces}
use Rattle.program_tokens.specs.Texts.{IsTextOf}
use Rattle.function_language.specs.Spelled.{only_functions_pieces}

-- the tokens of a function
abbrev pub function_line : Function → List Lexeme
function_line function = map lexeme_of (function_pieces function)

-- the text of functions: each on one line, with one blank after each word that a word follows, and no other blank
abbrev pub tree_text : List Function → List ℕ
tree_text functions = printed (map function_line functions)

-- a name that stands in this line
abbrev pub ident_in : ℕ → Ident → Ident
ident_in line ident = record { text = ident.text; line = line }

-- an expression, all of which stands in this line
abbrev mutual
  pub expr_in : ℕ → Expr → Expr
  expr_in line (Int other value) = Int line value
  expr_in line (Text other value) = Text line value
  expr_in line (Round other) = Round line
  expr_in line (Name ident) = Name (ident_in line ident)
  expr_in line (Call' ident shape args) = Call' (ident_in line ident) shape (args_in line args)

  -- each argument of a call
  pub args_in : {n : _} → ℕ → Row_of-Expr n → Row_of-Expr n
  args_in line end_of-Expr = end_of-Expr
  args_in line (more_of-Expr arg args) = more_of-Expr (expr_in line arg) (args_in line args)

-- a statement, all of which stands in this line
abbrev mutual
  pub statement_in : ℕ → Statement → Statement
  statement_in line (Let ident value) = Let (ident_in line ident) (expr_in line value)
  statement_in line (Set ident value) = Set (ident_in line ident) (expr_in line value)
  statement_in line (If' test shape chosen other) = If' (expr_in line test) shape (row_in line chosen) (other_in line other)
  statement_in line (For' idents stream shape body) = For' (map (ident_in line) idents) (ident_in line stream) shape (row_in line body)
  statement_in line (Emit other args) = Emit line (map (expr_in line) args)
  statement_in line (Give other value) = Give line (expr_in line value)

  -- the block behind `else`
  pub other_in : ℕ → Held-Statement-If-2 → Held-Statement-If-2
  other_in line None' = None'
  other_in line (Some' shape other) = Some' shape (row_in line other)

  -- the statements of an inner block
  pub row_in : {n : _} → ℕ → Row_of-Statement n → Row_of-Statement n
  row_in line end_of-Statement = end_of-Statement
  row_in line (more_of-Statement statement statements) = more_of-Statement (statement_in line statement) (row_in line statements)

-- a parameter in this line
abbrev pub param_in : ℕ → Param → Param
param_in line param = record { name = ident_in line param.name; kind = param.kind }

-- a stream in this line
abbrev pub stream_in : ℕ → Stream → Stream
stream_in line stream = record { name = ident_in line stream.name; kinds = stream.kinds }

-- a function, all of which stands in this line
abbrev pub function_in : ℕ → Function → Function
function_in line (Map ident params arrow out body) = Map (ident_in line ident) (map (param_in line) params) line out (map (statement_in line) body)
function_in line (Reduce ident key streams arrow out body) = Reduce (ident_in line ident) (param_in line key) (map (stream_in line) streams) line out (map (statement_in line) body)
function_in line (Distance ident key before after body) = Distance (ident_in line ident) (param_in line key) (stream_in line before) (stream_in line after) (map (statement_in line) body)
function_in line (Partition ident key body) = Partition (ident_in line ident) (param_in line key) (map (statement_in line) body)

-- the same functions, of which the first stands in this line, and each other in the line below
abbrev pub relined : ℕ → List Function → List Function
relined line [] = []
relined line (function ∷ functions) = function_in line function ∷ relined (line + 1) functions

-- the print of any functions that can be spelled is a text of these functions, each in its line
abbrev pub PrintIsReadAgain : Type 0
PrintIsReadAgain = (functions : List Function) → CanBeSpelled functions → IsTextOf only_functions_pieces (tree_text functions) (relined 1 functions)
