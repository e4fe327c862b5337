-- A tree in other lines is spelled as the tree, in these lines.
use Rattle.std.proofs.Common.{◌≡◌, ℕ, zero, suc, pred, List, [], ◌∷◌, ◌++◌, ◌∙◌, ap, ap₂, codes, map, refl, sym}
use Rattle.std.specs.List.{flat_map}
use Rattle.std.proofs.lemmas.List.{map-append}
use Rattle.hal_base.specs.declared.value.Kind.{Kind}
use Rattle.hal_base.specs.declared.value.Kind.TheVariants as a_kind
use Rattle.function_language.specs.declared.tree.Expr.{Expr, Int, Text, Round, Name, Call', Row_of-Expr, end_of-Expr, more_of-Expr}
use Rattle.function_language.specs.declared.tree.Function.{Function}
use Rattle.function_language.specs.declared.tree.Function.TheVariants.{Map, Reduce, Distance, Partition}
use Rattle.program_tokens.specs.declared.token.Ident.{Ident}
use Rattle.function_language.specs.declared.tree.Param.{Param}
use Rattle.function_language.specs.declared.tree.Row.{Row}
use Rattle.function_language.specs.declared.tree.Statement.{Statement, Let, Set, If', For', Emit, Give, Row_of-Statement, end_of-Statement, more_of-Statement, Held-Statement-If-2, None', Some'}
use Rattle.function_language.specs.declared.tree.Stream.{Stream}
use Rattle.program_tokens.specs.Pieces.{Piece, plain, placed, name, int, natural, quoted, end, nothing}
use Rattle.function_printing.specs.Printing.{args_in, expr_in, function_in, ident_in, other_in, param_in, row_in, statement_in, stream_in}
use Rattle.function_language.specs.Spelled.{args_pieces, block_of, block_pieces, else_pieces, expr_pieces, function_pieces, idents_pieces, opened, out_pieces, param_pieces, row_pieces, statement_pieces, stream_pieces}
use Rattle.program_tokens.specs.Pieces.{kind_pieces, kinds_pieces}
use Rattle.program_tokens.specs.Pieces.{each_behind_comma, in_parentheses, comma_separated, some_comma_separated}

-- a place in this line
abbrev pub piece_in : ℕ → Piece → Piece
piece_in line (plain word) = plain word
piece_in line (placed word other) = placed word line
piece_in line (name ident) = name (ident_in line ident)
piece_in line (int number) = int (record { value = number.value; line = line })
piece_in line (natural number) = natural (record { value = number.value; line = line })
piece_in line (quoted text other) = quoted text line
piece_in line end = end
piece_in line nothing = nothing

module _ (line : ℕ) where
  -- these places in the line
  abbrev pub pieces_in : List Piece → List Piece
  pieces_in pieces = map (piece_in line) pieces

  -- places before others
  both_in : (moved pieces also others : List Piece) → moved ≡ pieces_in pieces → also ≡ pieces_in others → moved ++ also ≡ pieces_in (pieces ++ others)
  both_in moved pieces also others e f = ap₂ ◌++◌ e f ∙ sym (map-append (piece_in line) pieces others)

  -- places before a mark
  ended_in : (mark : List ℕ) (moved pieces : List Piece) → moved ≡ pieces_in pieces → moved ++ plain mark ∷ [] ≡ pieces_in (pieces ++ plain mark ∷ [])
  ended_in mark moved pieces e = both_in moved pieces (plain mark ∷ []) (plain mark ∷ []) e refl

  -- places between parentheses
  parentheses_in : (moved pieces : List Piece) → moved ≡ pieces_in pieces → in_parentheses moved ≡ pieces_in (in_parentheses pieces)
  parentheses_in moved pieces e = ap (◌∷◌ (plain (codes "("))) (ended_in (codes ")") moved pieces e)

  -- places behind commas
  commas_in : (all : List (List Piece)) → each_behind_comma (map pieces_in all) ≡ pieces_in (each_behind_comma all)
  commas_in [] = refl
  commas_in (pieces ∷ others) = ap (◌∷◌ (plain (codes ","))) (both_in (pieces_in pieces) pieces (each_behind_comma (map pieces_in others)) (each_behind_comma others) refl (commas_in others))

  -- places with commas between
  separated_in : (moved all : List (List Piece)) → moved ≡ map pieces_in all → comma_separated moved ≡ pieces_in (comma_separated all)
  separated_in moved [] e = ap comma_separated e
  separated_in moved (pieces ∷ others) e = ap comma_separated e ∙ both_in (pieces_in pieces) pieces (each_behind_comma (map pieces_in others)) (each_behind_comma others) refl (commas_in others)

  -- the same, but at least one
  some_separated_in : (moved all : List (List Piece)) → moved ≡ map pieces_in all → some_comma_separated moved ≡ pieces_in (some_comma_separated all)
  some_separated_in moved [] e = ap some_comma_separated e
  some_separated_in moved (pieces ∷ others) e = ap some_comma_separated e ∙ both_in (pieces_in pieces) pieces (each_behind_comma (map pieces_in others)) (each_behind_comma others) refl (commas_in others)

  -- items that are moved one by one are spelled so
  each_in : {A : Type 0} (f : A → List Piece) (g : A → A) → ((a : A) → f (g a) ≡ pieces_in (f a)) → (xs : List A) → map f (map g xs) ≡ map pieces_in (map f xs)
  each_in f g each [] = refl
  each_in f g each (x ∷ xs) = ap₂ ◌∷◌ (each x) (each_in f g each xs)

  -- so are they one after another
  all_in : {A : Type 0} (f : A → List Piece) (g : A → A) → ((a : A) → f (g a) ≡ pieces_in (f a)) → (xs : List A) → flat_map f (map g xs) ≡ pieces_in (flat_map f xs)
  all_in f g each [] = refl
  all_in f g each (x ∷ xs) = both_in (f (g x)) (f x) (flat_map f (map g xs)) (flat_map f xs) (each x) (all_in f g each xs)

  -- what opens has no line
  opened_in : (depth : ℕ) (mark : List ℕ) → opened depth mark ≡ piece_in line (opened depth mark)
  opened_in zero mark = refl
  opened_in (suc depth) mark = refl

  -- what is opened and closed by marks
  within_in : (depth : ℕ) (open_mark close : List ℕ) (moved pieces : List Piece) → moved ≡ pieces_in pieces → opened depth open_mark ∷ moved ++ plain close ∷ [] ≡ pieces_in (opened depth open_mark ∷ pieces ++ plain close ∷ [])
  within_in depth open_mark close moved pieces e = ap₂ ◌∷◌ (opened_in depth open_mark) (ended_in close moved pieces e)

  -- a block, given what its statements are
  block_in : (depth : ℕ) (moved pieces : List Piece) → moved ≡ pieces_in pieces → block_of depth moved ≡ pieces_in (block_of depth pieces)
  block_in depth moved pieces e = within_in depth (codes "{") (codes "}") moved pieces e

  mutual
    -- an expression in the line is spelled in it
    expr_pieces_in : (depth : ℕ) (e : Expr) → expr_pieces depth (expr_in line e) ≡ pieces_in (expr_pieces depth e)
    expr_pieces_in depth (Int other value) = refl
    expr_pieces_in depth (Text other value) = refl
    expr_pieces_in depth (Round other) = refl
    expr_pieces_in depth (Name ident) = refl
    expr_pieces_in depth (Call' ident shape args) = ap (◌∷◌ (name (ident_in line ident))) (within_in depth (codes "(") (codes ")") (comma_separated (args_pieces (pred depth) (args_in line args))) (comma_separated (args_pieces (pred depth) args)) (separated_in (args_pieces (pred depth) (args_in line args)) (args_pieces (pred depth) args) (args_pieces_in (pred depth) args)))

    -- so is each argument of a call
    args_pieces_in : {n : _} (depth : ℕ) (args : Row_of-Expr n) → args_pieces depth (args_in line args) ≡ map pieces_in (args_pieces depth args)
    args_pieces_in depth end_of-Expr = refl
    args_pieces_in depth (more_of-Expr arg args) = ap₂ ◌∷◌ (expr_pieces_in depth arg) (args_pieces_in depth args)

  -- a `let` or a `set`
  bound_in : (word : List ℕ) (depth : ℕ) (ident : Ident) (value : Expr) → plain word ∷ name (ident_in line ident) ∷ plain (codes "=") ∷ expr_pieces depth (expr_in line value) ++ plain (codes ";") ∷ [] ≡ pieces_in (plain word ∷ name ident ∷ plain (codes "=") ∷ expr_pieces depth value ++ plain (codes ";") ∷ [])
  bound_in word depth ident value = ap (λ pieces. plain word ∷ name (ident_in line ident) ∷ plain (codes "=") ∷ pieces) (ended_in (codes ";") (expr_pieces depth (expr_in line value)) (expr_pieces depth value) (expr_pieces_in depth value))

  -- an `emit` or a `give`
  result_in : (word : List ℕ) (moved pieces : List Piece) → moved ≡ pieces_in pieces → placed word line ∷ in_parentheses moved ++ plain (codes ";") ∷ [] ≡ pieces_in (placed word line ∷ in_parentheses pieces ++ plain (codes ";") ∷ [])
  result_in word moved pieces e = ap (◌∷◌ (placed word line)) (ended_in (codes ";") (in_parentheses moved) (in_parentheses pieces) (parentheses_in moved pieces e))

  mutual
    -- a statement in the line is spelled in it
    statement_pieces_in : (depth : ℕ) (s : Statement) → statement_pieces depth (statement_in line s) ≡ pieces_in (statement_pieces depth s)
    statement_pieces_in depth (Let ident value) = bound_in (codes "let") depth ident value
    statement_pieces_in depth (Set ident value) = bound_in (codes "set") depth ident value
    statement_pieces_in depth (If' test shape chosen other) =
        let moved_test = in_parentheses (expr_pieces depth (expr_in line test)) in
        let moved_block = block_of depth (row_pieces (pred depth) (row_in line chosen)) in
        let parted = in_parentheses (expr_pieces depth test) in
        let block = block_of depth (row_pieces (pred depth) chosen) in
        ap (◌∷◌ (plain (codes "if"))) (both_in (moved_test ++ moved_block) (parted ++ block) (else_pieces depth (other_in line other)) (else_pieces depth other)
        (both_in moved_test parted moved_block block (parentheses_in (expr_pieces depth (expr_in line test)) (expr_pieces depth test) (expr_pieces_in depth test)) (block_in depth (row_pieces (pred depth) (row_in line chosen)) (row_pieces (pred depth) chosen) (row_pieces_in (pred depth) chosen)))
        (else_pieces_in depth other))
    statement_pieces_in depth (For' idents stream shape body) =
        let moved = comma_separated (idents_pieces (map (ident_in line) idents)) in
        ap (◌∷◌ (plain (codes "for"))) (both_in (in_parentheses moved) (in_parentheses (comma_separated (idents_pieces idents))) _ _
        (parentheses_in moved (comma_separated (idents_pieces idents)) (separated_in (idents_pieces (map (ident_in line) idents)) (idents_pieces idents) (each_in (λ ident. name ident ∷ []) (ident_in line) (λ ident. refl) idents)))
        (ap (λ pieces. plain (codes "in") ∷ name (ident_in line stream) ∷ pieces) (block_in depth (row_pieces (pred depth) (row_in line body)) (row_pieces (pred depth) body) (row_pieces_in (pred depth) body))))
    statement_pieces_in depth (Emit other args) =
        let moved = map (expr_pieces depth) (map (expr_in line) args) in
        result_in (codes "emit") (comma_separated moved) (comma_separated (map (expr_pieces depth) args)) (separated_in moved (map (expr_pieces depth) args) (each_in (expr_pieces depth) (expr_in line) (expr_pieces_in depth) args))
    statement_pieces_in depth (Give other value) = result_in (codes "give") (expr_pieces depth (expr_in line value)) (expr_pieces depth value) (expr_pieces_in depth value)

    -- so is what stands behind the block of an `if`
    else_pieces_in : (depth : ℕ) (other : Held-Statement-If-2) → else_pieces depth (other_in line other) ≡ pieces_in (else_pieces depth other)
    else_pieces_in depth None' = refl
    else_pieces_in depth (Some' shape other) = ap (◌∷◌ (plain (codes "else"))) (block_in depth (row_pieces (pred depth) (row_in line other)) (row_pieces (pred depth) other) (row_pieces_in (pred depth) other))

    -- so are the statements of an inner block
    row_pieces_in : {n : _} (depth : ℕ) (row : Row_of-Statement n) → row_pieces depth (row_in line row) ≡ pieces_in (row_pieces depth row)
    row_pieces_in depth end_of-Statement = refl
    row_pieces_in depth (more_of-Statement statement statements) = both_in (statement_pieces depth (statement_in line statement)) (statement_pieces depth statement) (row_pieces depth (row_in line statements)) (row_pieces depth statements) (statement_pieces_in depth statement) (row_pieces_in depth statements)

  -- the body of a function
  body_in : (body : List Statement) → block_pieces 32 (map (statement_in line) body) ≡ pieces_in (block_pieces 32 body)
  body_in body = block_in 32 (flat_map (statement_pieces (pred 32)) (map (statement_in line) body)) (flat_map (statement_pieces (pred 32)) body) (all_in (statement_pieces (pred 32)) (statement_in line) (statement_pieces_in (pred 32)) body)

  -- kinds have no line
  kind_in : (kind : Kind) → kind_pieces kind ≡ pieces_in (kind_pieces kind)
  kind_in a_kind.Int = refl
  kind_in a_kind.Text = refl

  -- each of some kinds
  each_kind_in : (kinds : List Kind) → map kind_pieces kinds ≡ map pieces_in (map kind_pieces kinds)
  each_kind_in [] = refl
  each_kind_in (kind ∷ kinds) = ap₂ ◌∷◌ (kind_in kind) (each_kind_in kinds)

  -- kinds between parentheses
  kinds_in : (kinds : List Kind) → kinds_pieces kinds ≡ pieces_in (kinds_pieces kinds)
  kinds_in kinds = parentheses_in (comma_separated (map kind_pieces kinds)) (comma_separated (map kind_pieces kinds)) (separated_in (map kind_pieces kinds) (map kind_pieces kinds) (each_kind_in kinds))

  -- a parameter in the line is spelled in it
  param_pieces_in : (param : Param) → param_pieces (param_in line param) ≡ pieces_in (param_pieces param)
  param_pieces_in param = ap (λ pieces. name (ident_in line param.name) ∷ plain (codes ":") ∷ pieces) (kind_in param.kind)

  -- a stream in the line is spelled in it
  stream_pieces_in : (stream : Stream) → stream_pieces (stream_in line stream) ≡ pieces_in (stream_pieces stream)
  stream_pieces_in stream = ap (λ pieces. name (ident_in line stream.name) ∷ plain (codes ":") ∷ pieces) (kinds_in stream.kinds)

  -- what a function emits, and its body, are spelled in the line
  out_in : (arrow : ℕ) (out : Row) (body : List Statement) → out_pieces line out (map (statement_in line) body) ≡ pieces_in (out_pieces arrow out body)
  out_in arrow out body = ap (◌∷◌ (placed (codes "->") line)) (both_in (kinds_pieces out.kinds) (kinds_pieces out.kinds) (block_pieces 32 (map (statement_in line) body)) (block_pieces 32 body) (kinds_in out.kinds) (body_in body))

  -- what a function has behind its name: something between parentheses, and the rest
  headed_in : (word : List ℕ) (ident : Ident) (moved pieces also others : List Piece) → moved ≡ pieces_in pieces → also ≡ pieces_in others
      → plain word ∷ name (ident_in line ident) ∷ in_parentheses moved ++ also ≡ pieces_in (plain word ∷ name ident ∷ in_parentheses pieces ++ others)
  headed_in word ident moved pieces also others e f = ap (λ pieces. plain word ∷ name (ident_in line ident) ∷ pieces) (both_in (in_parentheses moved) (in_parentheses pieces) also others (parentheses_in moved pieces e) f)

  -- a key, and what stands behind it and a `;`
  keyed_in : (key : Param) (moved pieces : List Piece) → moved ≡ pieces_in pieces → param_pieces (param_in line key) ++ plain (codes ";") ∷ moved ≡ pieces_in (param_pieces key ++ plain (codes ";") ∷ pieces)
  keyed_in key moved pieces e = both_in (param_pieces (param_in line key)) (param_pieces key) (plain (codes ";") ∷ moved) (plain (codes ";") ∷ pieces) (param_pieces_in key) (ap (◌∷◌ (plain (codes ";"))) e)

  -- a function in the line is spelled in it
  pub function_pieces_in : (function : Function) → function_pieces (function_in line function) ≡ pieces_in (function_pieces function)
  function_pieces_in (Map ident params arrow out body) =
      headed_in (codes "map") ident (some_comma_separated (map param_pieces (map (param_in line) params))) (some_comma_separated (map param_pieces params)) (out_pieces line out (map (statement_in line) body)) (out_pieces arrow out body)
      (some_separated_in (map param_pieces (map (param_in line) params)) (map param_pieces params) (each_in param_pieces (param_in line) param_pieces_in params)) (out_in arrow out body)
  function_pieces_in (Reduce ident key streams arrow out body) =
      let moved = some_comma_separated (map stream_pieces (map (stream_in line) streams)) in
      let pieces = some_comma_separated (map stream_pieces streams) in
      headed_in (codes "reduce") ident (param_pieces (param_in line key) ++ plain (codes ";") ∷ moved) (param_pieces key ++ plain (codes ";") ∷ pieces) (out_pieces line out (map (statement_in line) body)) (out_pieces arrow out body)
      (keyed_in key moved pieces (some_separated_in (map stream_pieces (map (stream_in line) streams)) (map stream_pieces streams) (each_in stream_pieces (stream_in line) stream_pieces_in streams))) (out_in arrow out body)
  function_pieces_in (Distance ident key prior later body) =
      let moved = param_pieces (param_in line key) ++ plain (codes ";") ∷ stream_pieces (stream_in line prior) in
      let pieces = param_pieces key ++ plain (codes ";") ∷ stream_pieces prior in
      headed_in (codes "distance") ident (moved ++ plain (codes ",") ∷ stream_pieces (stream_in line later)) (pieces ++ plain (codes ",") ∷ stream_pieces later) (block_pieces 32 (map (statement_in line) body)) (block_pieces 32 body)
      (both_in moved pieces (plain (codes ",") ∷ stream_pieces (stream_in line later)) (plain (codes ",") ∷ stream_pieces later)
      (keyed_in key (stream_pieces (stream_in line prior)) (stream_pieces prior) (stream_pieces_in prior)) (ap (◌∷◌ (plain (codes ","))) (stream_pieces_in later)))
      (body_in body)
  function_pieces_in (Partition ident key body) = headed_in (codes "partition") ident (param_pieces (param_in line key)) (param_pieces key) (block_pieces 32 (map (statement_in line) body)) (block_pieces 32 body) (param_pieces_in key) (body_in body)
