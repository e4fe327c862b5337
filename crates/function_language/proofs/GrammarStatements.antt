-- The readers of statements and blocks are right.
use Rattle.std.proofs.Common.{Bool, Err, List, None, Ok, Option, Some, [], ap, append_assoc, ap₂, codes, cond, false, inl, inr, map, pred, refl, subst, suc, sym, true, zero, ℕ, ◌++◌, ◌∙◌, ◌∷◌, ◌≡◌}
use Rattle.std.specs.List.{flat_map}
use Rattle.std.specs.Str.{bytes_eq}
use Rattle.program_tokens.specs.steps.Front.{later, line_of, sees}
use Rattle.program_tokens.specs.declared.token.Token.{Token}
use Rattle.program_tokens.specs.steps.Parsers.{Outcome, Parser, and_then, eat, expect, expect_line, ident, pure, ◌>>=◌, ◌>>◌}
use Rattle.program_tokens.specs.Pieces.{Piece, name, placed, plain, comma_separated}
use Rattle.function_language.specs.steps.Reading.{binding, block, emit_statement, enclosed, expr, for_statement, give_statement, if_statement, other, result_statement, statement_of}
use Rattle.function_language.specs.steps.SpelledLists.{for_pieces, if_pieces, other_pieces}
use Rattle.function_language.specs.Spelled.{block_of, block_pieces, else_pieces, expr_pieces, idents_pieces, row_pieces, statement_pieces}
use Rattle.program_tokens.specs.Pieces.{in_parentheses}
use Rattle.function_language.specs.declared.tree.Expr.{Expr}
use Rattle.program_tokens.specs.declared.token.Ident.{Ident}
use Rattle.function_language.specs.declared.tree.Statement.{Emit, For', Give, Held-Statement-If-2, If', Let, None', Row_of-Statement, Set, Some', Statement, end_of-Statement, items-the_row-Statement, items_hidden-the_row-Statement-0, items_shown-the_row-Statement-0, more_of-Statement, out-Statement, roll-Statement, roll-out-Statement}
use Rattle.function_language.specs.declared.tree.Statement.TheBlock.{hidden-the_row-Statement-0, shape-the_row-Statement-0}
use Rattle.function_language.specs.declared.tree.Statement.TheVariants as a_statement
use Rattle.program_tokens.proofs.Right.{Exactly, Right, RightAt, Spells, Stops, respelled}
use Rattle.program_tokens.proofs.Choices.{Either, choose_at}
use Rattle.program_tokens.proofs.Firsts.{Begins, Free, Heads, Unfilled, begins_follows, either_begins, refuse_right}
use Rattle.program_tokens.proofs.OneToken.{expect_line_right, ident_right}
use Rattle.program_tokens.proofs.Parts.{Made, as_made, exactly, free_part, last_part, last_word, made_begins, nothing_follows, pure_made, remade, word_then}
use Rattle.program_tokens.proofs.Avoiding.{Avoids, Unseen, eat_right, name_avoids, placed_avoids, plain_avoids, refused_unseen_line}
use Rattle.program_tokens.proofs.Many.{block_from_right, closed_right}
use Rattle.function_language.proofs.Before.{unseen_before}
use Rattle.function_language.proofs.GrammarSignatures.{named_before}
use Rattle.function_language.proofs.GrammarExpressions.{expr_first, expr_right}

-- ---- rows and lists

-- the statements of a row are spelled as those of its list
pub statements_of_row : (n : _) (depth : ℕ) (row : Row_of-Statement n) → row_pieces depth row ≡ flat_map (statement_pieces depth) (items-the_row-Statement n row)
statements_of_row n depth end_of-Statement = refl
statements_of_row n depth (more_of-Statement statement statements) = ap (◌++◌ (statement_pieces depth statement)) (statements_of_row _ depth statements)

-- the list of what stands behind `else`
abbrev else_of : Held-Statement-If-2 → Option (List Statement)
else_of None' = None
else_of (Some' shape row) = Some (items-the_row-Statement _ row)

-- an `if` is made of the lists of its statements
if_of_row : (test : Expr) (shape : List (Unit {0})) (row : _) (other : Held-Statement-If-2) → If' test shape row other ≡ a_statement.If test (items-the_row-Statement _ row) (else_of other)
unfolding roll-Statement denote.Hole.Carrier.roll out-Statement denote.Hole.Carrier.out
if_of_row test shape row None' = sym (roll-out-Statement (If' test shape row None')) ∙ ap (λ chosen. a_statement.If test chosen None) (items_shown-the_row-Statement-0 shape row)
if_of_row test shape row (Some' shape' row') = sym (roll-out-Statement (If' test shape row (Some' shape' row')))
    ∙ ap₂ (λ chosen other. a_statement.If test chosen (Some other)) (items_shown-the_row-Statement-0 shape row) (items_shown-the_row-Statement-0 shape' row')

-- a `for` is made of the list of its statements
for_of_row : (idents : List Ident) (stream : Ident) (shape : List (Unit {0})) (row : _) → For' idents stream shape row ≡ a_statement.For idents stream (items-the_row-Statement _ row)
unfolding roll-Statement denote.Hole.Carrier.roll out-Statement denote.Hole.Carrier.out
for_of_row idents stream shape row = sym (roll-out-Statement (For' idents stream shape row)) ∙ ap (a_statement.For idents stream) (items_shown-the_row-Statement-0 shape row)

-- what stands behind the block of an `if` in a tree is spelled as its list
other_row : (depth : ℕ) (other : Held-Statement-If-2) → else_pieces depth other ≡ other_pieces depth (else_of other)
other_row depth None' = refl
other_row depth (Some' shape row) = ap (λ statements. plain (codes "else") ∷ block_of depth statements) (statements_of_row _ (pred depth) row)

-- an `if` in a tree is spelled as its lists
if_row : (depth : ℕ) (test : Expr) (shape : List (Unit {0})) (row : _) (other : Held-Statement-If-2) → statement_pieces depth (If' test shape row other) ≡ if_pieces depth test (items-the_row-Statement _ row) (else_of other)
if_row depth test shape row other =
    let chosen = items-the_row-Statement _ row in
    ap₂ (λ statements more. plain (codes "if") ∷ in_parentheses (expr_pieces depth test) ++ block_of depth statements ++ more) (statements_of_row _ (pred depth) row) (other_row depth other)
    ∙ ap (λ pieces. plain (codes "if") ∷ plain (codes "(") ∷ pieces) (
    append_assoc (expr_pieces depth test ++ plain (codes ")") ∷ []) (block_pieces depth chosen) (other_pieces depth (else_of other))
    ∙ append_assoc (expr_pieces depth test) (plain (codes ")") ∷ []) (block_pieces depth chosen ++ other_pieces depth (else_of other)))

-- a `for` in a tree is spelled as its list
for_row : (depth : ℕ) (idents : List Ident) (stream : Ident) (shape : List (Unit {0})) (row : _) → statement_pieces depth (For' idents stream shape row) ≡ for_pieces depth idents stream (items-the_row-Statement _ row)
for_row depth idents stream shape row =
    ap (λ statements. plain (codes "for") ∷ in_parentheses (comma_separated (idents_pieces idents)) ++ plain (codes "in") ∷ name stream ∷ block_of depth statements) (statements_of_row _ (pred depth) row)

-- an `if` with these statements is spelled as they are
pub if_spelled : (depth : ℕ) (test : Expr) (chosen : List Statement) (other : Option (List Statement)) → if_pieces depth test chosen other ≡ statement_pieces depth (a_statement.If test chosen other)
if_spelled depth test chosen None = sym (if_row depth test (shape-the_row-Statement-0 chosen) (hidden-the_row-Statement-0 chosen) None' ∙ ap (λ chosen. if_pieces depth test chosen None) (items_hidden-the_row-Statement-0 chosen))
if_spelled depth test chosen (Some other) = sym (
    if_row depth test (shape-the_row-Statement-0 chosen) (hidden-the_row-Statement-0 chosen) (Some' (shape-the_row-Statement-0 other) (hidden-the_row-Statement-0 other))
    ∙ ap₂ (λ chosen other. if_pieces depth test chosen (Some other)) (items_hidden-the_row-Statement-0 chosen) (items_hidden-the_row-Statement-0 other))

-- a `for` with these statements is spelled as they are
pub for_spelled : (depth : ℕ) (idents : List Ident) (stream : Ident) (body : List Statement) → for_pieces depth idents stream body ≡ statement_pieces depth (a_statement.For idents stream body)
for_spelled depth idents stream body = sym (for_row depth idents stream (shape-the_row-Statement-0 body) (hidden-the_row-Statement-0 body) ∙ ap (for_pieces depth idents stream) (items_hidden-the_row-Statement-0 body))

-- ---- the kinds of statements

-- what ends a statement that may go on with `else`
abbrev pub NoElse : Stops
NoElse = Unseen (codes "else")

-- the readers of expressions and blocks that a statement is made of
module _ (depth : ℕ) (value : Parser Expr) (block : Parser (List Statement)) (value_right : Right (Exactly (expr_pieces depth)) (Unseen (codes "(")) value) (block_right : Right (Exactly (block_pieces depth)) NoElse block)
    (block_free : Right (Exactly (block_pieces depth)) Free block) where
  -- what `let` and `set` have in common
  abbrev Bound : List ℕ → (Ident → Expr → Statement) → Spells Statement
  Bound word made = Made {C = Ident × Expr} (λ c. made c.0 c.1) (λ c. plain word ∷ name c.0 ∷ plain (codes "=") ∷ expr_pieces depth c.1 ++ plain (codes ";") ∷ [])

  -- the mark that ends a statement
  semicolon : (s : Statement) → Right (Made {C = Unit {0}} (λ _. s) (λ _. plain (codes ";") ∷ [])) NoElse (expect (codes ";") >> pure s)
  semicolon = last_word (codes ";") NoElse

  -- `let` or `set`
  binding_right : (word : List ℕ) (made : Ident → Expr → Statement) → Right (Bound word made) NoElse (expect word >> binding value made)
  unfolding binding
  binding_right word made = word_then word (free_part (named_before (codes "=") Free) (λ i. last_part (λ e. made i e) (unseen_before (codes ";") (expr_pieces depth) NoElse value (codes "(") refl value_right)))

  -- an expression between parentheses
  enclosed_right : (stops : Stops) → Right (Exactly (λ e. in_parentheses (expr_pieces depth e))) stops (enclosed value)
  unfolding enclosed
  enclosed_right stops = exactly (λ e. in_parentheses (expr_pieces depth e)) (λ e. e) (λ e. refl) (λ e. refl)
      (word_then (codes "(") (as_made (unseen_before (codes ")") (expr_pieces depth) stops value (codes "(") refl value_right)))

  -- an `if`
  abbrev Chosen : Spells Statement
  Chosen = Made {C = Expr × (List Statement × Option (List Statement))} (λ c. a_statement.If c.0 c.1.0 c.1.1) (λ c. if_pieces depth c.0 c.1.0 c.1.1)

  -- what stands behind the block of an `if`: `else` and a block
  abbrev WithElse : Spells (Option (List Statement))
  WithElse = Made Some (λ found. plain (codes "else") ∷ block_pieces depth found)

  -- or nothing
  abbrev WithoutElse : Spells (Option (List Statement))
  WithoutElse = Made {C = Unit {0}} (λ _. None) (λ _. [])

  -- with or without `else`, it is spelled so
  other_to : (o : Option (List Statement)) (pieces : List Piece) → Either WithElse WithoutElse o pieces → pieces ≡ other_pieces depth o
  other_to o pieces (inl m) = m.as_parts ∙ ap (other_pieces depth) (sym m.made)
  other_to o pieces (inr m) = m.as_parts ∙ ap (other_pieces depth) (sym m.made)

  -- what is spelled so is with or without `else`
  other_from : (o : Option (List Statement)) (pieces : List Piece) → pieces ≡ other_pieces depth o → Either WithElse WithoutElse o pieces
  other_from None pieces e = inr (record { parts = tt; made = refl; as_parts = e })
  other_from (Some found) pieces e = inl (record { parts = found; made = refl; as_parts = e })

  -- it is read right
  other_right : Right (Exactly (other_pieces depth)) NoElse (other block)
  unfolding other
  other_right ts = respelled other_to other_from
      (eat_right (codes "else") {one = WithElse} {other = WithoutElse} (block >>= λ found. pure (Some found)) (pure None)
      (word_then (codes "else") (last_part Some block_right))
      (pure_made {C = Unit {0}} (λ _. None) (λ _. []) NoElse tt (λ _. refl) (λ _. refl))
      (nothing_follows (λ _. None) NoElse NoElse (λ rest stop. stop))
      ts)

  -- an `if`, with its test between parentheses
  abbrev Tested : Spells Statement
  Tested = Made {C = Expr × (List Statement × Option (List Statement))} (λ c. a_statement.If c.0 c.1.0 c.1.1) (λ c. plain (codes "if") ∷ (in_parentheses (expr_pieces depth c.0) ++ (block_pieces depth c.1.0 ++ other_pieces depth c.1.1)))

  -- it is read right
  tested_right : Right Tested NoElse (expect (codes "if") >> if_statement value block)
  unfolding if_statement
  tested_right = word_then (codes "if") (free_part {make = λ c. a_statement.If c.0 c.1.0 c.1.1} (enclosed_right Free) (λ test. free_part {make = λ c. a_statement.If test c.0 c.1} block_free (λ chosen. last_part (λ rest. a_statement.If test chosen rest) other_right)))

  -- it is an `if`
  tested_pieces : (c : Expr × (List Statement × Option (List Statement))) → plain (codes "if") ∷ (in_parentheses (expr_pieces depth c.0) ++ (block_pieces depth c.1.0 ++ other_pieces depth c.1.1)) ≡ if_pieces depth c.0 c.1.0 c.1.1
  tested_pieces c = ap (λ pieces. plain (codes "if") ∷ plain (codes "(") ∷ pieces) (append_assoc (expr_pieces depth c.0) (plain (codes ")") ∷ []) (block_pieces depth c.1.0 ++ other_pieces depth c.1.1))

  -- an `if` is read right
  if_right : Right Chosen NoElse (expect (codes "if") >> if_statement value block)
  if_right = remade {C = Expr × (List Statement × Option (List Statement))} (λ c. a_statement.If c.0 c.1.0 c.1.1) (λ c. if_pieces depth c.0 c.1.0 c.1.1) (λ c. c) (λ c. c) (λ c. refl) tested_pieces (λ c. refl) (λ c. sym (tested_pieces c)) tested_right

  -- a `for`
  abbrev Looped : Spells Statement
  Looped = Made {C = List Ident × (Ident × List Statement)} (λ c. a_statement.For c.0 c.1.0 c.1.1) (λ c. for_pieces depth c.0 c.1.0 c.1.1)

  -- a `for` is read right
  for_right : Right Looped NoElse (expect (codes "for") >> for_statement block)
  unfolding for_statement
  for_right = word_then (codes "for") (word_then (codes "(") (free_part {make = λ c. a_statement.For c.0 c.1.0 c.1.1}
      (closed_right (λ i. name i ∷ []) Free Free ident (ident_right Free) (λ i. name_avoids (codes ")") i refl) (λ token tokens fits. tt) (λ token tokens fits. tt))
      (λ names. word_then (codes "in") (free_part (ident_right Free) (λ over. last_part (λ body. a_statement.For names over body) block_right)))))

  -- an `emit`
  abbrev Emitted : Spells Statement
  Emitted = Made {C = ℕ × (List Expr × Unit {0})} (λ c. Emit c.0 c.1.0) (λ c. placed (codes "emit") c.0 ∷ in_parentheses (comma_separated (map (expr_pieces depth) c.1.0)) ++ plain (codes ";") ∷ [])

  -- an `emit` is read right
  emit_right : Right Emitted NoElse (expect_line (codes "emit") >>= emit_statement value)
  unfolding emit_statement
  emit_right = free_part {make = λ (c : ℕ × (List Expr × Unit {0})). Emit c.0 c.1.0} (expect_line_right (codes "emit") Free) (λ line. word_then (codes "(") (free_part
      (closed_right (expr_pieces depth) (Unseen (codes "(")) Free value value_right (λ e. expr_first depth (codes ")") e refl refl) (plain_avoids (codes ",") (codes "(") refl) (plain_avoids (codes ")") (codes "(") refl))
      (λ args. semicolon (Emit line args))))

  -- a `give`
  abbrev Given : Spells Statement
  Given = Made {C = ℕ × (Expr × Unit {0})} (λ c. Give c.0 c.1.0) (λ c. placed (codes "give") c.0 ∷ in_parentheses (expr_pieces depth c.1.0) ++ plain (codes ";") ∷ [])

  -- a `give` is read right
  give_right : Right Given NoElse (expect_line (codes "give") >>= give_statement value)
  unfolding give_statement
  give_right = free_part {make = λ (c : ℕ × (Expr × Unit {0})). Give c.0 c.1.0} (expect_line_right (codes "give") Free) (λ line. free_part (enclosed_right Free) (λ e. semicolon (Give line e)))

  -- ---- the choice between them

  -- to tell the line first, and then to choose, is to choose by the word
  emitted_or_given : (ts : List Token) → result_statement value ts ≡ cond (sees (codes "emit") ts) ((expect_line (codes "emit") >>= emit_statement value) ts) ((expect_line (codes "give") >>= give_statement value) ts)
  unfolding result_statement eat expect expect_line
  emitted_or_given ts = go (sees (codes "emit") ts) (sees (codes "give") ts)
    where
      go : (b c : Bool) → (cond b (emit_statement value (line_of ts)) (λ us. and_then (cond {A = Outcome (Unit {0})} (sees (codes "give") us) (Ok (tt, later us)) (Err us)) (λ _. give_statement value (line_of ts)))) (cond b (later ts) ts)
          ≡ cond b (and_then (cond b (Ok (line_of ts, later ts)) (Err ts)) (emit_statement value)) (and_then (cond (sees (codes "give") ts) (Ok (line_of ts, later ts)) (Err ts)) (give_statement value))
      go true c = refl
      go false c = given (sees (codes "give") ts)
        where
          given : (c : Bool) → and_then (cond {A = Outcome (Unit {0})} c (Ok (tt, later ts)) (Err ts)) (λ _. give_statement value (line_of ts)) ≡ and_then (cond c (Ok (line_of ts, later ts)) (Err ts)) (give_statement value)
          given true = refl
          given false = refl

  -- without its word an `emit` is refused
  emit_guard : (ts : List Token) → sees (codes "emit") ts ≡ false → (expect_line (codes "emit") >>= emit_statement value) ts ≡ Err ts
  emit_guard = refused_unseen_line (codes "emit") (emit_statement value)

  -- an `emit` or a `give`
  abbrev Results : Spells Statement
  Results = Either Emitted Given

  -- an `emit` or a `give` is read right
  result_right : Right Results NoElse (result_statement value)
  result_right ts = subst (RightAt Results NoElse ts) (sym (emitted_or_given ts))
      (choose_at Emitted Given NoElse (sees (codes "emit")) ts ((expect_line (codes "emit") >>= emit_statement value) ts) ((expect_line (codes "give") >>= give_statement value) ts)
      (emit_guard ts) (emit_right ts) (give_right ts)
      (begins_follows Given NoElse (Unseen (codes "emit")) (made_begins (Avoids (codes "emit")) (λ c. placed_avoids (codes "give") (codes "emit") c.0 refl))))

  -- neither begins with another word
  results_begin : (word : List ℕ) → bytes_eq (codes "emit") word ≡ false → bytes_eq (codes "give") word ≡ false → Begins (Avoids word) Results
  results_begin word e g = either_begins (Avoids word) (made_begins (Avoids word) (λ c. placed_avoids (codes "emit") word c.0 e)) (made_begins (Avoids word) (λ c. placed_avoids (codes "give") word c.0 g))

  -- these or a `for`
  abbrev FromFor : Spells Statement
  FromFor = Either Looped Results

  -- none of these begins with another word
  from_for_begins : (word : List ℕ) → bytes_eq (codes "for") word ≡ false → bytes_eq (codes "emit") word ≡ false → bytes_eq (codes "give") word ≡ false → Begins (Avoids word) FromFor
  from_for_begins word f e g = either_begins (Avoids word) (made_begins (Avoids word) (λ c. plain_avoids (codes "for") word f)) (results_begin word e g)

  -- these or an `if`
  abbrev FromIf : Spells Statement
  FromIf = Either Chosen FromFor

  -- none of these begins with another word
  from_if_begins : (word : List ℕ) → bytes_eq (codes "if") word ≡ false → bytes_eq (codes "for") word ≡ false → bytes_eq (codes "emit") word ≡ false → bytes_eq (codes "give") word ≡ false → Begins (Avoids word) FromIf
  from_if_begins word i f e g = either_begins (Avoids word) (made_begins (Avoids word) (λ c. plain_avoids (codes "if") word i)) (from_for_begins word f e g)

  -- these or a `set`
  abbrev FromSet : Spells Statement
  FromSet = Either (Bound (codes "set") a_statement.Set) FromIf

  -- these or a `let`
  abbrev Statements : Spells Statement
  Statements = Either (Bound (codes "let") a_statement.Let) FromSet

  -- one of the kinds of statements is read right
  chosen_right : Right Statements NoElse (statement_of value block)
  unfolding statement_of
  chosen_right =
      eat_right (codes "let") {one = Bound (codes "let") a_statement.Let} {other = FromSet} _ _ (binding_right (codes "let") a_statement.Let)
      (eat_right (codes "set") {one = Bound (codes "set") a_statement.Set} {other = FromIf} _ _ (binding_right (codes "set") a_statement.Set)
      (eat_right (codes "if") {one = Chosen} {other = FromFor} _ _ if_right
      (eat_right (codes "for") {one = Looped} {other = Results} _ _ for_right result_right
      (begins_follows Results NoElse (Unseen (codes "for")) (results_begin (codes "for") refl refl)))
      (begins_follows FromFor NoElse (Unseen (codes "if")) (from_for_begins (codes "if") refl refl refl)))
      (begins_follows FromIf NoElse (Unseen (codes "set")) (from_if_begins (codes "set") refl refl refl refl)))
      (begins_follows FromSet NoElse (Unseen (codes "let")) (either_begins (Avoids (codes "let")) (made_begins (Avoids (codes "let")) (λ c. plain_avoids (codes "set") (codes "let") refl)) (from_if_begins (codes "let") refl refl refl refl)))

  -- ---- as statements are spelled

  -- an `emit` or a `give` is a statement
  results_to : (s : Statement) (pieces : List Piece) → Results s pieces → pieces ≡ statement_pieces depth s
  results_to s pieces (inl m) = m.as_parts ∙ ap (statement_pieces depth) (sym m.made)
  results_to s pieces (inr m) = m.as_parts ∙ ap (statement_pieces depth) (sym m.made)

  -- or a `for`
  from_for_to : (s : Statement) (pieces : List Piece) → FromFor s pieces → pieces ≡ statement_pieces depth s
  from_for_to s pieces (inl m) = m.as_parts ∙ for_spelled depth m.parts.0 m.parts.1.0 m.parts.1.1 ∙ ap (statement_pieces depth) (sym m.made)
  from_for_to s pieces (inr m) = results_to s pieces m

  -- or an `if`
  from_if_to : (s : Statement) (pieces : List Piece) → FromIf s pieces → pieces ≡ statement_pieces depth s
  from_if_to s pieces (inl m) = m.as_parts ∙ if_spelled depth m.parts.0 m.parts.1.0 m.parts.1.1 ∙ ap (statement_pieces depth) (sym m.made)
  from_if_to s pieces (inr m) = from_for_to s pieces m

  -- or a `set`
  from_set_to : (s : Statement) (pieces : List Piece) → FromSet s pieces → pieces ≡ statement_pieces depth s
  from_set_to s pieces (inl m) = m.as_parts ∙ ap (statement_pieces depth) (sym m.made)
  from_set_to s pieces (inr m) = from_if_to s pieces m

  -- one of the kinds of statements is a statement
  statement_to : (s : Statement) (pieces : List Piece) → Statements s pieces → pieces ≡ statement_pieces depth s
  statement_to s pieces (inl m) = m.as_parts ∙ ap (statement_pieces depth) (sym m.made)
  statement_to s pieces (inr m) = from_set_to s pieces m

  -- a statement is one of the kinds of statements
  statement_from : (s : Statement) (pieces : List Piece) → pieces ≡ statement_pieces depth s → Statements s pieces
  statement_from (Let i e) pieces f = inl (record { parts = (i, e); made = refl; as_parts = f })
  statement_from (Set i e) pieces f = inr (inl (record { parts = (i, e); made = refl; as_parts = f }))
  statement_from (If' test shape row other) pieces f =
      inr (inr (inl (record { parts = (test, (items-the_row-Statement _ row, else_of other)); made = if_of_row test shape row other; as_parts = f ∙ if_row depth test shape row other })))
  statement_from (For' idents stream shape row) pieces f =
      inr (inr (inr (inl (record { parts = (idents, (stream, items-the_row-Statement _ row)); made = for_of_row idents stream shape row; as_parts = f ∙ for_row depth idents stream shape row }))))
  statement_from (Emit line args) pieces f = inr (inr (inr (inr (inl (record { parts = (line, (args, tt)); made = refl; as_parts = f })))))
  statement_from (Give line e) pieces f = inr (inr (inr (inr (inr (record { parts = (line, (e, tt)); made = refl; as_parts = f })))))

  -- a statement, where its expressions and blocks are read right
  statement_right_of : Right (Exactly (statement_pieces depth)) NoElse (statement_of value block)
  statement_right_of ts = respelled statement_to statement_from (chosen_right ts)

-- ---- blocks

-- a statement begins with one of six words
pub statement_first : (depth : ℕ) (P : Piece → Type 0) → P (plain (codes "let")) → P (plain (codes "set")) → P (plain (codes "if")) → P (plain (codes "for"))
    → ((line : ℕ) → P (placed (codes "emit") line)) → ((line : ℕ) → P (placed (codes "give") line)) → (s : Statement) → Heads P (statement_pieces depth s)
statement_first depth P l s i f e g (Let _ value) = l
statement_first depth P l s i f e g (Set _ value) = s
statement_first depth P l s i f e g (If' test shape row other) = i
statement_first depth P l s i f e g (For' idents stream shape row) = f
statement_first depth P l s i f e g (Emit line args) = e line
statement_first depth P l s i f e g (Give line value) = g line

-- no statement begins with this word
pub statement_avoids : (depth : ℕ) (word : List ℕ) → bytes_eq (codes "let") word ≡ false → bytes_eq (codes "set") word ≡ false → bytes_eq (codes "if") word ≡ false → bytes_eq (codes "for") word ≡ false
    → bytes_eq (codes "emit") word ≡ false → bytes_eq (codes "give") word ≡ false → (s : Statement) → Heads (Avoids word) (statement_pieces depth s)
statement_avoids depth word l s i f e g = statement_first depth (Avoids word) (plain_avoids (codes "let") word l) (plain_avoids (codes "set") word s) (plain_avoids (codes "if") word i) (plain_avoids (codes "for") word f)
    (λ line. placed_avoids (codes "emit") word line e) (λ line. placed_avoids (codes "give") word line g)

-- a block
pub block_right : (depth : ℕ) (stops : Stops) → Right (Exactly (block_pieces depth)) stops (block depth)
block_right zero stops = refuse_right (Exactly (block_pieces zero)) stops
    (record { value = []; pieces = block_pieces zero []; spelled = refl })
    (λ b pieces e. subst (Heads Unfilled) (sym e) (λ token fits. fits))
block_right (suc depth) stops = exactly (block_pieces (suc depth)) (λ b. b) (λ b. refl) (λ b. refl)
    (word_then (codes "{") (as_made (block_from_right (statement_pieces depth) NoElse stops (statement_of (expr depth) (block depth))
    (statement_right_of depth (expr depth) (block depth) (expr_right depth) (block_right depth NoElse) (block_right depth Free))
    (statement_avoids depth (codes "}") refl refl refl refl refl refl)
    (statement_avoids depth (codes "else") refl refl refl refl refl refl)
    (plain_avoids (codes "}") (codes "else") refl))))

-- a statement
pub statement_right : (depth : ℕ) → Right (Exactly (statement_pieces depth)) (Unseen (codes "else")) (statement_of (expr depth) (block depth))
statement_right depth = statement_right_of depth (expr depth) (block depth) (expr_right depth) (block_right depth NoElse) (block_right depth Free)
