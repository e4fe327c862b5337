-- The literals of functions that can be spelled are values.
use Rattle.std.proofs.Common.{ℕ, pred, List, [], ◌∷◌, ◌++◌, codes, map}
use Rattle.std.specs.List.{AllByRecursion, flat_map}
use Rattle.hal_base.specs.declared.value.Value.TheVariants as value
use Rattle.hal_base.specs.Values.{IsValue}
use Rattle.function_language.specs.declared.tree.Expr.{Expr, Int, Text, Round, Name, Call', Row_of-Expr, end_of-Expr, more_of-Expr}
use Rattle.function_language.specs.declared.tree.Function.{Function}
use Rattle.function_language.specs.declared.tree.Function.TheVariants.{Map, Reduce, Distance, Partition}
use Rattle.function_language.specs.declared.tree.Row.{Row}
use Rattle.function_language.specs.declared.tree.Statement.{Statement, Let, Set, If', For', Emit, Give, Row_of-Statement, end_of-Statement, more_of-Statement, Held-Statement-If-2, None', Some'}
use Rattle.program_tokens.specs.Pieces.{IsPlace, Piece, comma_separated, each_behind_comma, in_parentheses, kinds_pieces, plain, some_comma_separated}
use Rattle.function_language.specs.Spelled.{CanBeSpelled, args_pieces, block_of, block_pieces, else_pieces, expr_pieces, function_pieces, functions_pieces, out_pieces, param_pieces, row_pieces, statement_pieces, stream_pieces}

-- ---- what is to be shown

-- each literal in an expression is a value
abbrev mutual
  pub ValuesIn : Expr → Type 0
  ValuesIn (Int line n) = IsValue (value.Int n)
  ValuesIn (Text line text) = IsValue (value.Text text)
  ValuesIn (Round line) = Unit {0}
  ValuesIn (Name ident) = Unit {0}
  ValuesIn (Call' ident shape args) = ValuesInArgs args

  pub ValuesInArgs : {n : _} → Row_of-Expr n → Type 0
  ValuesInArgs end_of-Expr = Unit {0}
  ValuesInArgs (more_of-Expr arg args) = ValuesIn arg × ValuesInArgs args

-- each literal in a statement is a value
abbrev mutual
  pub ValuesInStatement : Statement → Type 0
  ValuesInStatement (Let ident value) = ValuesIn value
  ValuesInStatement (Set ident value) = ValuesIn value
  ValuesInStatement (If' test shape chosen other) = ValuesIn test × ValuesInRow chosen × ValuesInElse other
  ValuesInStatement (For' idents stream shape body) = ValuesInRow body
  ValuesInStatement (Emit line args) = AllByRecursion ValuesIn args
  ValuesInStatement (Give line value) = ValuesIn value

  pub ValuesInElse : Held-Statement-If-2 → Type 0
  ValuesInElse None' = Unit {0}
  ValuesInElse (Some' shape other) = ValuesInRow other

  pub ValuesInRow : {n : _} → Row_of-Statement n → Type 0
  ValuesInRow end_of-Statement = Unit {0}
  ValuesInRow (more_of-Statement statement statements) = ValuesInStatement statement × ValuesInRow statements

-- each literal in the body of a function is a value
abbrev pub ValuesInFunction : Function → Type 0
ValuesInFunction (Map name params arrow out body) = AllByRecursion ValuesInStatement body
ValuesInFunction (Reduce name key streams arrow out body) = AllByRecursion ValuesInStatement body
ValuesInFunction (Distance name key before after body) = AllByRecursion ValuesInStatement body
ValuesInFunction (Partition name key body) = AllByRecursion ValuesInStatement body

-- ---- places

abbrev ArePlaces : List Piece → Type 0
ArePlaces pieces = AllByRecursion IsPlace pieces

places : (xs ys : List Piece) → ArePlaces (xs ++ ys) → ArePlaces xs × ArePlaces ys
places [] ys all = (tt, all)
places (x ∷ xs) ys all = let rest = places xs ys all.1 in ((all.0, rest.0), rest.1)

behind_commas : (each : List (List Piece)) → ArePlaces (each_behind_comma each) → AllByRecursion ArePlaces each
behind_commas [] all = tt
behind_commas (pieces ∷ each) all = let both = places pieces (each_behind_comma each) all.1 in (both.0, behind_commas each both.1)

apart : (each : List (List Piece)) → ArePlaces (comma_separated each) → AllByRecursion ArePlaces each
apart [] all = tt
apart (pieces ∷ each) all = let both = places pieces (each_behind_comma each) all in (both.0, behind_commas each both.1)

inside : (pieces : List Piece) → ArePlaces (in_parentheses pieces) → ArePlaces pieces
inside pieces all = (places pieces _ all.1).0

in_block : (depth : ℕ) (pieces : List Piece) → ArePlaces (block_of depth pieces) → ArePlaces pieces
in_block depth pieces all = (places pieces _ all.1).0

-- ---- expressions

mutual
  values_in : (depth : ℕ) (e : Expr) → ArePlaces (expr_pieces depth e) → ValuesIn e
  values_in depth (Int line n) all = all.0
  values_in depth (Text line text) all = all.0
  values_in depth (Round line) all = tt
  values_in depth (Name ident) all = tt
  values_in depth (Call' ident shape args) all = values_in_args (pred depth) args (apart (args_pieces (pred depth) args) (places (comma_separated (args_pieces (pred depth) args)) _ all.1.1).0)

  values_in_args : {n : _} (depth : ℕ) (args : Row_of-Expr n) → AllByRecursion ArePlaces (args_pieces depth args) → ValuesInArgs args
  values_in_args depth end_of-Expr all = tt
  values_in_args depth (more_of-Expr arg args) all = (values_in depth arg all.0, values_in_args depth args all.1)

values_in_all : (depth : ℕ) (args : List Expr) → AllByRecursion ArePlaces (map (expr_pieces depth) args) → AllByRecursion ValuesIn args
values_in_all depth [] all = tt
values_in_all depth (arg ∷ args) all = (values_in depth arg all.0, values_in_all depth args all.1)

-- ---- statements

mutual
  values_in_statement : (depth : ℕ) (st : Statement) → ArePlaces (statement_pieces depth st) → ValuesInStatement st
  values_in_statement depth (Let ident value) all = values_in depth value (places (expr_pieces depth value) _ all.1.1.1).0
  values_in_statement depth (Set ident value) all = values_in depth value (places (expr_pieces depth value) _ all.1.1.1).0
  values_in_statement depth (If' test shape chosen other) all =
      let first = in_parentheses (expr_pieces depth test) in
      let second = block_of depth (row_pieces (pred depth) chosen) in
      let both = places (first ++ second) (else_pieces depth other) all.1 in
      let front = places first second both.0 in
      (values_in depth test (inside (expr_pieces depth test) front.0), values_in_row (pred depth) chosen (in_block depth (row_pieces (pred depth) chosen) front.1), values_in_else depth other both.1)
  values_in_statement depth (For' idents stream shape body) all =
      let rest = (places (in_parentheses (comma_separated _)) _ all.1).1 in
      values_in_row (pred depth) body (in_block depth (row_pieces (pred depth) body) rest.1.1)
  values_in_statement depth (Emit line args) all =
      let each = map (expr_pieces depth) args in
      values_in_all depth args (apart each (inside (comma_separated each) (places (in_parentheses (comma_separated each)) _ all.1).0))
  values_in_statement depth (Give line value) all = values_in depth value (inside (expr_pieces depth value) (places (in_parentheses (expr_pieces depth value)) _ all.1).0)

  values_in_else : (depth : ℕ) (other : Held-Statement-If-2) → ArePlaces (else_pieces depth other) → ValuesInElse other
  values_in_else depth None' all = tt
  values_in_else depth (Some' shape other) all = values_in_row (pred depth) other (in_block depth (row_pieces (pred depth) other) all.1)

  values_in_row : {n : _} (depth : ℕ) (row : Row_of-Statement n) → ArePlaces (row_pieces depth row) → ValuesInRow row
  values_in_row depth end_of-Statement all = tt
  values_in_row depth (more_of-Statement st sts) all = let both = places (statement_pieces depth st) (row_pieces depth sts) all in (values_in_statement depth st both.0, values_in_row depth sts both.1)

values_in_body : (depth : ℕ) (body : List Statement) → ArePlaces (flat_map (statement_pieces depth) body) → AllByRecursion ValuesInStatement body
values_in_body depth [] all = tt
values_in_body depth (st ∷ sts) all = let both = places (statement_pieces depth st) (flat_map (statement_pieces depth) sts) all in (values_in_statement depth st both.0, values_in_body depth sts both.1)

-- ---- functions

in_body : (body : List Statement) → ArePlaces (block_pieces 32 body) → AllByRecursion ValuesInStatement body
in_body body all = values_in_body 31 body (in_block 32 (flat_map (statement_pieces 31) body) all)

behind_arrow : (arrow : ℕ) (out : Row) (body : List Statement) → ArePlaces (out_pieces arrow out body) → AllByRecursion ValuesInStatement body
behind_arrow arrow out body all = in_body body (places (kinds_pieces out.kinds) (block_pieces 32 body) all.1).1

values_in_function : (f : Function) → ArePlaces (function_pieces f) → ValuesInFunction f
values_in_function (Map name params arrow out body) all = behind_arrow arrow out body (places (in_parentheses (some_comma_separated (map param_pieces params))) (out_pieces arrow out body) all.1.1).1
values_in_function (Reduce name key streams arrow out body) all =
    behind_arrow arrow out body (places (in_parentheses (param_pieces key ++ plain (codes ";") ∷ some_comma_separated (map stream_pieces streams))) (out_pieces arrow out body) all.1.1).1
values_in_function (Distance name key before after body) all =
    in_body body (places (in_parentheses (param_pieces key ++ plain (codes ";") ∷ stream_pieces before ++ plain (codes ",") ∷ stream_pieces after)) (block_pieces 32 body) all.1.1).1
values_in_function (Partition name key body) all = in_body body (places (in_parentheses (param_pieces key)) (block_pieces 32 body) all.1.1).1

-- the literals of functions that can be spelled are values
pub literals_are_values : (functions : List Function) → CanBeSpelled functions → AllByRecursion ValuesInFunction functions
literals_are_values [] all = tt
literals_are_values (f ∷ functions) all = let both = places (function_pieces f) (functions_pieces functions) all in (values_in_function f both.0, literals_are_values functions both.1)
