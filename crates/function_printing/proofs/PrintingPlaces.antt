-- What is written at places, one part after another.
use Rattle.std.proofs.Common.{◌≡◌, ℕ, zero, suc, ◌+◌, ◌-◌, ◌<◌, Option, Some, List, [], ◌∷◌, ◌++◌, ◌∙◌, ap, ap₂, append_assoc, arith, codes, drop, get_or, length, map, refl, subst, sym, take}
use Rattle.std.specs.List.{flat_map}
use Rattle.std.proofs.lemmas.List.{at_drop_more}
use Rattle.std.proofs.Math.Seq.{take-length}
use Rattle.program_tokens.specs.Tokens.{spaced, spelling}
use Rattle.function_language.specs.declared.tree.Expr.{Expr}
use Rattle.function_language.specs.declared.tree.Expr.TheVariants as an_expr
use Rattle.function_language.specs.declared.tree.Function.{Function}
use Rattle.program_tokens.specs.declared.token.Ident.{Ident}
use Rattle.function_language.specs.declared.tree.Row.{Row}
use Rattle.function_language.specs.declared.tree.Statement.{Statement}
use Rattle.function_language.specs.declared.tree.Statement.TheVariants as a_statement
use Rattle.program_tokens.specs.Pieces.{Piece, name, plain}
use Rattle.function_printing.specs.Printing.{function_line, tree_text}
use Rattle.program_tokens.specs.Pieces.{lexeme_of}
use Rattle.function_printing.specs.steps.Printer.{ArePlaces, Written, put, put_all, put_line}
use Rattle.function_language.specs.Spelled.{block_pieces, expr_pieces, idents_pieces, out_pieces, statement_pieces}
use Rattle.program_tokens.specs.Pieces.{kinds_pieces}
use Rattle.program_tokens.specs.Pieces.{IsPlace, each_behind_comma, in_parentheses, comma_separated, some_comma_separated}
use Rattle.function_language.specs.steps.SpelledLists.{binding_pieces, call_pieces, for_pieces, if_pieces, other_pieces}
use Rattle.function_language.proofs.GrammarExpressions.{call_spelled}
use Rattle.function_language.proofs.GrammarStatements.{for_spelled, if_spelled}
use Rattle.program_tokens.proofs.Places.{all_back, all_front}

-- places one after another
pub put_both : (written : Written) (pieces others : List Piece) → put_all written (pieces ++ others) ≡ put_all (put_all written pieces) others
put_both written [] others = refl
put_both written (piece ∷ pieces) others = put_both (put written (spelling (lexeme_of piece))) pieces others

-- a part behind a comma, before the rest
comma_part : (w₀ w₁ w₂ : Written) (pieces rest all : List Piece) → all ≡ plain (codes ",") ∷ pieces ++ rest → w₁ ≡ put w₀ (codes ",") → w₂ ≡ put_all w₁ pieces → put_all w₂ rest ≡ put_all w₀ all
comma_part w₀ w₁ w₂ pieces rest all whole comma part =
    ap (λ w. put_all w rest) (part ∙ ap (λ w. put_all w pieces) comma) ∙ sym (ap (put_all w₀) whole ∙ put_both (put w₀ (codes ",")) pieces rest)

-- a part before the rest
part_before : (w₀ w₁ : Written) (pieces rest all : List Piece) → all ≡ pieces ++ rest → w₁ ≡ put_all w₀ pieces → put_all w₁ rest ≡ put_all w₀ all
part_before w₀ w₁ pieces rest all whole part = ap (λ w. put_all w rest) part ∙ sym (ap (put_all w₀) whole ∙ put_both w₀ pieces rest)

module _ {A : Type 0} (f : A → List Piece) (xs : List A) where
  -- behind commas, from this index on
  abbrev pub commas_from : ℕ → List Piece
  commas_from i = each_behind_comma (map f (drop i xs))

  -- from this index on
  abbrev pub all_from : ℕ → List Piece
  all_from i = flat_map f (drop i xs)

  -- behind commas, all but the first
  abbrev pub others : List Piece
  others = each_behind_comma (map f (take (length xs - 1) (drop 1 xs)))

  -- what is left behind commas begins with a comma and the next item
  comma_next : (i : ℕ) (x : A) → i < length xs → x ≡ get_or xs i x → commas_from i ≡ plain (codes ",") ∷ f x ++ commas_from (i + 1)
  comma_next i x l e = at_drop_more (λ xs. each_behind_comma (map f xs)) xs i x l ∙ ap (λ x. plain (codes ",") ∷ f x ++ commas_from (i + 1)) (sym e)

  -- what is left begins with the next item
  item_next : (i : ℕ) (x : A) → i < length xs → x ≡ get_or xs i x → all_from i ≡ f x ++ all_from (i + 1)
  item_next i x l e = at_drop_more (flat_map f) xs i x l ∙ ap (λ x. f x ++ all_from (i + 1)) (sym e)

  -- the first item, and the others
  first_and_others : (x : A) → 0 < length xs → x ≡ get_or xs 0 x → comma_separated (map f xs) ≡ f x ++ others
  first_and_others x some e = go xs some e
    where
      go : (xs : List A) → 0 < length xs → x ≡ get_or xs 0 x → comma_separated (map f xs) ≡ f x ++ each_behind_comma (map f (take (length xs - 1) (drop 1 xs)))
      go [] some e = absurd (omega arith)
      go (y ∷ ys) some e =
          let fewer : length (y ∷ ys) - 1 ≡ length ys = omega arith in
          ap (λ y. f y ++ each_behind_comma (map f ys)) (sym e)
          ∙ ap (λ ys. f x ++ each_behind_comma (map f ys)) (sym (ap (λ n. take n ys) fewer ∙ take-length ys))

  -- with a comma and the next item, what is left is written as before
  pub comma_written : (i : ℕ) (x : A) → i < length xs → x ≡ get_or xs i x → (w₀ w₁ w₂ : Written) → w₁ ≡ put w₀ (codes ",") → w₂ ≡ put_all w₁ (f x) → put_all w₂ (commas_from (i + 1)) ≡ put_all w₀ (commas_from i)
  comma_written i x l e w₀ w₁ w₂ comma part = comma_part w₀ w₁ w₂ (f x) (commas_from (i + 1)) (commas_from i) (comma_next i x l e) comma part

  -- with the next item, what is left is written as before
  pub item_written : (i : ℕ) (x : A) → i < length xs → x ≡ get_or xs i x → (w₀ w₁ : Written) → w₁ ≡ put_all w₀ (f x) → put_all w₁ (all_from (i + 1)) ≡ put_all w₀ (all_from i)
  item_written i x l e w₀ w₁ part = part_before w₀ w₁ (f x) (all_from (i + 1)) (all_from i) (item_next i x l e) part

  -- the first item and the others are all
  pub others_written : (x : A) → 0 < length xs → x ≡ get_or xs 0 x → (w₀ w₁ w₂ : Written) → w₁ ≡ put_all w₀ (f x) → w₂ ≡ put_all w₁ others → w₂ ≡ put_all w₀ (comma_separated (map f xs))
  others_written x some e w₀ w₁ w₂ part rest = rest ∙ part_before w₀ w₁ (f x) others (comma_separated (map f xs)) (first_and_others x some e) part

  -- the next item behind a comma has places, and what is left then
  pub comma_places : (i : ℕ) (x : A) → i < length xs → x ≡ get_or xs i x → ArePlaces (commas_from i) → ArePlaces (f x) × ArePlaces (commas_from (i + 1))
  comma_places i x l e p = let all = (subst ArePlaces (comma_next i x l e) p).1 in (all_front IsPlace (f x) (commas_from (i + 1)) all, all_back IsPlace (f x) (commas_from (i + 1)) all)

  -- the next item has places, and what is left then
  pub item_places : (i : ℕ) (x : A) → i < length xs → x ≡ get_or xs i x → ArePlaces (all_from i) → ArePlaces (f x) × ArePlaces (all_from (i + 1))
  item_places i x l e p = let all = subst ArePlaces (item_next i x l e) p in (all_front IsPlace (f x) (all_from (i + 1)) all, all_back IsPlace (f x) (all_from (i + 1)) all)

  -- the first item has places, and the others
  pub others_places : (x : A) → 0 < length xs → x ≡ get_or xs 0 x → ArePlaces (comma_separated (map f xs)) → ArePlaces (f x) × ArePlaces others
  others_places x some e p = let all = subst ArePlaces (first_and_others x some e) p in (all_front IsPlace (f x) others all, all_back IsPlace (f x) others all)

-- a call has places behind its name
pub call_places : (depth : ℕ) (e : Expr) (i : Ident) (args slice : List Expr) → e ≡ an_expr.Call i args → slice ≡ args → ArePlaces (expr_pieces depth e) → ArePlaces (call_pieces depth slice)
call_places depth e i args slice is same p = subst (λ args. ArePlaces (call_pieces depth args)) (sym same) ((subst ArePlaces (ap (expr_pieces depth) is ∙ call_spelled depth i args) p).1)

-- a call that has places opens, and so have its arguments
pub call_inside : (depth : ℕ) (args : List Expr) → ArePlaces (call_pieces depth args) → (0 < depth) × ArePlaces (comma_separated (map (expr_pieces (depth - 1)) args))
call_inside zero args p = absurd p.0
call_inside (suc depth) args p =
    let before : depth ≡ suc depth - 1 = omega arith in
    (omega arith, subst (λ depth. ArePlaces (comma_separated (map (expr_pieces depth) args))) before (all_front IsPlace (comma_separated (map (expr_pieces depth) args)) (plain (codes ")") ∷ []) p.1))

-- a call is written behind its name
pub call_written : (w₀ w₁ w₂ : Written) (depth : ℕ) (e : Expr) (i : Ident) (args slice : List Expr) → e ≡ an_expr.Call i args → slice ≡ args → w₁ ≡ put_all w₀ (name i ∷ []) → w₂ ≡ put_all w₁ (call_pieces depth slice) → w₂ ≡ put_all w₀ (expr_pieces depth e)
call_written w₀ w₁ w₂ depth e i args slice is same named called =
    called ∙ ap₂ (λ w args. put_all w (call_pieces depth args)) named same ∙ sym (ap (put_all w₀) (ap (expr_pieces depth) is ∙ call_spelled depth i args))

-- what stands between parentheses, with something behind
between : (pieces rest : List Piece) → ArePlaces ((pieces ++ plain (codes ")") ∷ []) ++ rest) → ArePlaces pieces
between pieces rest p = all_front IsPlace pieces (plain (codes ")") ∷ []) (all_front IsPlace (pieces ++ plain (codes ")") ∷ []) rest p)

-- a block that has places opens, and so have its statements
pub block_inside : (depth : ℕ) (block : List Statement) → ArePlaces (block_pieces depth block) → (0 < depth) × ArePlaces (flat_map (statement_pieces (depth - 1)) block)
block_inside zero block p = absurd p.0
block_inside (suc depth) block p =
    let before : depth ≡ suc depth - 1 = omega arith in
    (omega arith, subst (λ depth. ArePlaces (flat_map (statement_pieces depth) block)) before (all_front IsPlace (flat_map (statement_pieces depth) block) (plain (codes "}") ∷ []) p.1))

-- the value of a `let` or a `set` has places
pub binding_places : (depth : ℕ) (word : List ℕ) (i : Ident) (value : Expr) → ArePlaces (binding_pieces depth word i value) → ArePlaces (expr_pieces depth value)
binding_places depth word i value p = all_front IsPlace (expr_pieces depth value) (plain (codes ";") ∷ []) p.1.1.1

-- the test of an `if` has places
pub test_places : (depth : ℕ) (test : Expr) (chosen : List Statement) (other : Option (List Statement)) → ArePlaces (if_pieces depth test chosen other) → ArePlaces (expr_pieces depth test)
test_places depth test chosen other p = all_front IsPlace (expr_pieces depth test) (plain (codes ")") ∷ (block_pieces depth chosen ++ other_pieces depth other)) p.1.1

-- an `if` has places
pub if_places : (depth : ℕ) (s : Statement) (test : Expr) (chosen : List Statement) (other : Option (List Statement)) → s ≡ a_statement.If test chosen other → ArePlaces (statement_pieces depth s) → ArePlaces (if_pieces depth test chosen other)
if_places depth s test chosen other is p = subst ArePlaces (ap (statement_pieces depth) is ∙ sym (if_spelled depth test chosen other)) p

-- the block of an `if`, and what stands behind it, have places
if_behind : (depth : ℕ) (test : Expr) (chosen : List Statement) (other : Option (List Statement)) → ArePlaces (if_pieces depth test chosen other) → ArePlaces (block_pieces depth chosen ++ other_pieces depth other)
if_behind depth test chosen other p = (all_back IsPlace (expr_pieces depth test) (plain (codes ")") ∷ (block_pieces depth chosen ++ other_pieces depth other)) p.1.1).1

-- so has the block
pub chosen_places : (depth : ℕ) (test : Expr) (chosen slice : List Statement) (other : Option (List Statement)) → slice ≡ chosen → ArePlaces (if_pieces depth test chosen other) → ArePlaces (block_pieces depth slice)
chosen_places depth test chosen slice other same p = subst (λ block. ArePlaces (block_pieces depth block)) (sym same) (all_front IsPlace (block_pieces depth chosen) (other_pieces depth other) (if_behind depth test chosen other p))

-- so has the block behind `else`
pub other_places : (depth : ℕ) (test : Expr) (chosen block slice : List Statement) (other : Option (List Statement)) → other ≡ Some block → slice ≡ block → ArePlaces (if_pieces depth test chosen other) → ArePlaces (block_pieces depth slice)
other_places depth test chosen block slice other is same p =
    let behind = all_back IsPlace (block_pieces depth chosen) (other_pieces depth other) (if_behind depth test chosen other p) in
    subst (λ block. ArePlaces (block_pieces depth block)) (sym same) ((subst (λ other. ArePlaces (other_pieces depth other)) is behind).1)

-- an `if` is written as a statement
pub if_written : (w₀ w₁ : Written) (depth : ℕ) (s : Statement) (test : Expr) (chosen : List Statement) (other : Option (List Statement)) → s ≡ a_statement.If test chosen other → w₁ ≡ put_all w₀ (if_pieces depth test chosen other) → w₁ ≡ put_all w₀ (statement_pieces depth s)
if_written w₀ w₁ depth s test chosen other is e = e ∙ ap (put_all w₀) (if_spelled depth test chosen other ∙ sym (ap (statement_pieces depth) is))

-- a `for` has places
pub for_places : (depth : ℕ) (s : Statement) (idents : List Ident) (stream : Ident) (body : List Statement) → s ≡ a_statement.For idents stream body → ArePlaces (statement_pieces depth s) → ArePlaces (for_pieces depth idents stream body)
for_places depth s idents stream body is p = subst ArePlaces (ap (statement_pieces depth) is ∙ sym (for_spelled depth idents stream body)) p

-- so has its block
pub body_places : (depth : ℕ) (idents : List Ident) (stream : Ident) (body slice : List Statement) → slice ≡ body → ArePlaces (for_pieces depth idents stream body) → ArePlaces (block_pieces depth slice)
body_places depth idents stream body slice same p =
    let names = comma_separated (idents_pieces idents) in
    subst (λ block. ArePlaces (block_pieces depth block)) (sym same) ((all_back IsPlace (names ++ plain (codes ")") ∷ []) (plain (codes "in") ∷ name stream ∷ block_pieces depth body) p.1.1).1.1)

-- a `for` is written as a statement
pub for_written : (w₀ w₁ : Written) (depth : ℕ) (s : Statement) (idents : List Ident) (stream : Ident) (body : List Statement) → s ≡ a_statement.For idents stream body → w₁ ≡ put_all w₀ (for_pieces depth idents stream body) → w₁ ≡ put_all w₀ (statement_pieces depth s)
for_written w₀ w₁ depth s idents stream body is e = e ∙ ap (put_all w₀) (for_spelled depth idents stream body ∙ sym (ap (statement_pieces depth) is))

-- the arguments of an `emit` have places
pub emit_places : (depth : ℕ) (s : Statement) (line : ℕ) (args slice : List Expr) → s ≡ a_statement.Emit line args → slice ≡ args → ArePlaces (statement_pieces depth s) → ArePlaces (comma_separated (map (expr_pieces depth) slice))
emit_places depth s line args slice is same p =
    subst (λ args. ArePlaces (comma_separated (map (expr_pieces depth) args))) (sym same) (between (comma_separated (map (expr_pieces depth) args)) (plain (codes ";") ∷ []) ((subst ArePlaces (ap (statement_pieces depth) is) p).1.1))

-- the value of a `give` has places
pub give_places : (depth : ℕ) (s : Statement) (line : ℕ) (value : Expr) → s ≡ a_statement.Give line value → ArePlaces (statement_pieces depth s) → ArePlaces (expr_pieces depth value)
give_places depth s line value is p = between (expr_pieces depth value) (plain (codes ";") ∷ []) ((subst ArePlaces (ap (statement_pieces depth) is) p).1.1)

-- a function with what it emits
abbrev pub emitting : List ℕ → Ident → List Piece → ℕ → Row → List Statement → List Piece
emitting word i pieces arrow out body = plain word ∷ name i ∷ in_parentheses pieces ++ out_pieces arrow out body

-- what stands between its parentheses has places
pub head_places : (word : List ℕ) (i : Ident) (pieces : List Piece) (arrow : ℕ) (out : Row) (body : List Statement) → ArePlaces (emitting word i pieces arrow out body) → ArePlaces pieces
head_places word i pieces arrow out body p = between pieces (out_pieces arrow out body) p.1.1.1

-- its body has places
pub emitting_body : (word : List ℕ) (i : Ident) (pieces : List Piece) (arrow : ℕ) (out : Row) (body : List Statement) → ArePlaces (emitting word i pieces arrow out body) → ArePlaces (block_pieces 32 body)
emitting_body word i pieces arrow out body p =
    all_back IsPlace (kinds_pieces out.kinds) (block_pieces 32 body) ((all_back IsPlace (pieces ++ plain (codes ")") ∷ []) (out_pieces arrow out body) p.1.1.1).1)

-- the body of a function that emits nothing has places
pub headed_body : (word : List ℕ) (i : Ident) (pieces : List Piece) (body slice : List Statement) → slice ≡ body → ArePlaces (plain word ∷ name i ∷ in_parentheses pieces ++ block_pieces 32 body) → ArePlaces (block_pieces 32 slice)
headed_body word i pieces body slice same p = subst (λ body. ArePlaces (block_pieces 32 body)) (sym same) (all_back IsPlace (pieces ++ plain (codes ")") ∷ []) (block_pieces 32 body) p.1.1.1)

-- both have places
both_places : (xs ys : List Piece) → ArePlaces xs → ArePlaces ys → ArePlaces (xs ++ ys)
both_places [] ys p q = q
both_places (x ∷ xs) ys p q = (p.0, both_places xs ys p.1 q)

-- whatever the line of its arrow
pub any_places : (word : List ℕ) (i : Ident) (pieces : List Piece) (arrow other : ℕ) (out : Row) (body : List Statement) → ArePlaces (emitting word i pieces arrow out body) → ArePlaces (emitting word i pieces other out body)
any_places word i pieces arrow other out body p =
    let front = pieces ++ plain (codes ")") ∷ [] in
    let back = (all_back IsPlace front (out_pieces arrow out body) p.1.1.1).1 in
    (tt, (p.1.0, (tt, both_places front (out_pieces other out body) (all_front IsPlace front (out_pieces arrow out body) p.1.1.1) (tt, back))))

-- it is written alike
pub any_written : (w : Written) (word : List ℕ) (i : Ident) (pieces : List Piece) (arrow other : ℕ) (out : Row) (body : List Statement) → put_all w (emitting word i pieces arrow out body) ≡ put_all w (emitting word i pieces other out body)
any_written w word i pieces arrow other out body =
    let before = put (put w word) i.text in
    put_both before (in_parentheses pieces) (out_pieces arrow out body) ∙ sym (put_both before (in_parentheses pieces) (out_pieces other out body))

-- a line, before what is left
pub line_written : (functions : List Function) (i : ℕ) (function : Function) → i < length functions → function ≡ get_or functions i function → (w₀ w₁ : Written) → w₁ ≡ put_line w₀ (function_line function) → w₁.0 ++ tree_text (drop (i + 1) functions) ≡ w₀.0 ++ tree_text (drop i functions)
line_written functions i function l e w₀ w₁ line =
    let bytes = spaced (function_line function) in
    let rest = tree_text (drop (i + 1) functions) in
    ap (λ (w : Written). w.0 ++ rest) line
    ∙ append_assoc (w₀.0 ++ bytes) (10 ∷ []) rest ∙ append_assoc w₀.0 bytes (10 ∷ rest) ∙ ap (◌++◌ w₀.0) (sym (append_assoc bytes (10 ∷ []) rest))
    ∙ sym (ap (λ text. w₀.0 ++ text) (at_drop_more tree_text functions i function l ∙ ap (λ function. tree_text (function ∷ drop (i + 1) functions)) (sym e)))

-- where one at least is asked for and all are places, one is there
pub some_are : (all : List (List Piece)) → ArePlaces (some_comma_separated all) → some_comma_separated all ≡ comma_separated all
some_are [] p = absurd p.0
some_are (pieces ∷ more) p = refl
