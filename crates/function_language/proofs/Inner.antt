-- No end stands within the spelling of functions, and each word of it can be spelled.
use Rattle.std.proofs.Common.{ℕ, refl, zero, suc, pred, List, [], ◌∷◌, ◌++◌, map, codes}
use Rattle.std.specs.List.{flat_map}
use Rattle.program_tokens.specs.Tokens.{IsSpelled}
use Rattle.program_tokens.specs.declared.token.Lexeme.TheVariants as lexeme
use Rattle.function_language.specs.declared.tree.Param.{Param}
use Rattle.function_language.specs.declared.tree.Row.{Row}
use Rattle.function_language.specs.declared.tree.Stream.{Stream}
use Rattle.function_language.specs.declared.tree.Expr.{Expr, Int, Text, Round, Name, Call', Row_of-Expr, end_of-Expr, more_of-Expr}
use Rattle.function_language.specs.declared.tree.Statement.{Statement, Let, Set, If', For', Emit, Give, Row_of-Statement, end_of-Statement, more_of-Statement, Held-Statement-If-2, None', Some'}
use Rattle.function_language.specs.declared.tree.Function.{Function}
use Rattle.function_language.specs.declared.tree.Function.TheVariants.{Map, Reduce, Distance, Partition}
use Rattle.program_tokens.specs.Pieces.{Piece, plain, name}
use Rattle.function_language.specs.Spelled.{args_pieces, block_of, block_pieces, else_pieces, expr_pieces, function_pieces, functions_pieces, idents_pieces, opened, out_pieces, param_pieces, row_pieces, statement_pieces, stream_pieces}
use Rattle.program_tokens.specs.Pieces.{kinds_pieces}
use Rattle.program_tokens.specs.Pieces.{in_parentheses, comma_separated, some_comma_separated}
use Rattle.program_tokens.proofs.Inner.{kind_inner, kinds_inner, AreAllInner, AreInner, IsInner, all_inner, both_inner, each_inner, parentheses_inner, separated_inner, some_inner}

opened_inner : (depth : ℕ) (mark : List ℕ) → IsSpelled (lexeme.Plain mark) → IsInner (opened depth mark)
opened_inner zero mark s = tt
opened_inner (suc depth) mark s = s

mutual
  expr_inner : (depth : ℕ) (e : Expr) → AreInner (expr_pieces depth e)
  expr_inner depth (Int line value) = (tt, tt)
  expr_inner depth (Text line value) = (tt, tt)
  expr_inner depth (Round line) = (refl, tt)
  expr_inner depth (Name ident) = (tt, tt)
  expr_inner depth (Call' ident shape args) = (tt, (opened_inner depth (codes "(") refl, both_inner (comma_separated (args_pieces (pred depth) args)) (plain (codes ")") ∷ []) (separated_inner (args_pieces (pred depth) args) (args_inner (pred depth) args)) (refl, tt)))

  args_inner : {n : _} (depth : ℕ) (args : Row_of-Expr n) → AreAllInner (args_pieces depth args)
  args_inner depth end_of-Expr = tt
  args_inner depth (more_of-Expr arg args) = (expr_inner depth arg, args_inner depth args)

block_inner : (depth : ℕ) (statements : List Piece) → AreInner statements → AreInner (block_of depth statements)
block_inner depth statements a = (opened_inner depth (codes "{") refl, both_inner statements (plain (codes "}") ∷ []) a (refl, tt))

mutual
  statement_inner : (depth : ℕ) (s : Statement) → AreInner (statement_pieces depth s)
  statement_inner depth (Let ident value) = (refl, (tt, (refl, both_inner (expr_pieces depth value) (plain (codes ";") ∷ []) (expr_inner depth value) (refl, tt))))
  statement_inner depth (Set ident value) = (refl, (tt, (refl, both_inner (expr_pieces depth value) (plain (codes ";") ∷ []) (expr_inner depth value) (refl, tt))))
  statement_inner depth (If' test shape chosen other) =
      let block = block_of depth (row_pieces (pred depth) chosen) in (
        refl,
        both_inner (in_parentheses (expr_pieces depth test) ++ block) (else_pieces depth other)
            (both_inner (in_parentheses (expr_pieces depth test)) block (parentheses_inner (expr_pieces depth test) (expr_inner depth test)) (block_inner depth (row_pieces (pred depth) chosen) (row_inner (pred depth) chosen)))
            (else_inner depth other),
      )
  statement_inner depth (For' idents stream shape body) = (
    refl,
    both_inner (in_parentheses (comma_separated (idents_pieces idents))) _ (parentheses_inner (comma_separated (idents_pieces idents)) (separated_inner (idents_pieces idents) (each_inner (λ ident. name ident ∷ []) (λ ident. (tt, tt)) idents)))
        (refl, (tt, block_inner depth (row_pieces (pred depth) body) (row_inner (pred depth) body))),
  )
  statement_inner depth (Emit line args) =
      (refl, both_inner (in_parentheses (comma_separated (map (expr_pieces depth) args))) (plain (codes ";") ∷ []) (parentheses_inner (comma_separated (map (expr_pieces depth) args)) (separated_inner (map (expr_pieces depth) args) (each_inner (expr_pieces depth) (expr_inner depth) args))) (refl, tt))
  statement_inner depth (Give line value) = (refl, both_inner (in_parentheses (expr_pieces depth value)) (plain (codes ";") ∷ []) (parentheses_inner (expr_pieces depth value) (expr_inner depth value)) (refl, tt))

  else_inner : (depth : ℕ) (other : Held-Statement-If-2) → AreInner (else_pieces depth other)
  else_inner depth None' = tt
  else_inner depth (Some' shape other) = (refl, block_inner depth (row_pieces (pred depth) other) (row_inner (pred depth) other))

  row_inner : {n : _} (depth : ℕ) (statements : Row_of-Statement n) → AreInner (row_pieces depth statements)
  row_inner depth end_of-Statement = tt
  row_inner depth (more_of-Statement statement statements) = both_inner (statement_pieces depth statement) (row_pieces depth statements) (statement_inner depth statement) (row_inner depth statements)

body_inner : (depth : ℕ) (body : List Statement) → AreInner (block_pieces depth body)
body_inner depth body = block_inner depth (flat_map (statement_pieces (pred depth)) body) (all_inner (statement_pieces (pred depth)) (statement_inner (pred depth)) body)

param_inner : (param : Param) → AreInner (param_pieces param)
param_inner param = (tt, (refl, kind_inner param.kind))

stream_inner : (stream : Stream) → AreInner (stream_pieces stream)
stream_inner stream = (tt, (refl, kinds_inner stream.kinds))

out_inner : (arrow : ℕ) (out : Row) (body : List Statement) → AreInner (out_pieces arrow out body)
out_inner arrow out body = (refl, both_inner (kinds_pieces out.kinds) (block_pieces 32 body) (kinds_inner out.kinds) (body_inner 32 body))

function_inner : (f : Function) → AreInner (function_pieces f)
function_inner (Map ident params arrow out body) =
    (refl, (tt, both_inner (in_parentheses (some_comma_separated (map param_pieces params))) (out_pieces arrow out body) (parentheses_inner (some_comma_separated (map param_pieces params)) (some_inner (map param_pieces params) (each_inner param_pieces param_inner params))) (out_inner arrow out body)))
function_inner (Reduce ident key streams arrow out body) = (
  refl,
  (
    tt,
    both_inner (in_parentheses (param_pieces key ++ plain (codes ";") ∷ some_comma_separated (map stream_pieces streams))) (out_pieces arrow out body)
        (parentheses_inner (param_pieces key ++ plain (codes ";") ∷ some_comma_separated (map stream_pieces streams)) (both_inner (param_pieces key) (plain (codes ";") ∷ some_comma_separated (map stream_pieces streams)) (param_inner key) (refl, some_inner (map stream_pieces streams) (each_inner stream_pieces stream_inner streams))))
        (out_inner arrow out body),
  ),
)
function_inner (Distance ident key before after body) = (
  refl,
  (
    tt,
    both_inner (in_parentheses (param_pieces key ++ plain (codes ";") ∷ stream_pieces before ++ plain (codes ",") ∷ stream_pieces after)) (block_pieces 32 body)
        (parentheses_inner (param_pieces key ++ plain (codes ";") ∷ stream_pieces before ++ plain (codes ",") ∷ stream_pieces after)
        (both_inner (param_pieces key ++ plain (codes ";") ∷ stream_pieces before) (plain (codes ",") ∷ stream_pieces after)
        (both_inner (param_pieces key) (plain (codes ";") ∷ stream_pieces before) (param_inner key) (refl, stream_inner before))
        (refl, stream_inner after)))
        (body_inner 32 body),
  ),
)
function_inner (Partition ident key body) = (refl, (tt, both_inner (in_parentheses (param_pieces key)) (block_pieces 32 body) (parentheses_inner (param_pieces key) (param_inner key)) (body_inner 32 body)))

pub functions_inner : (functions : List Function) → AreInner (functions_pieces functions)
functions_inner functions = all_inner function_pieces function_inner functions
