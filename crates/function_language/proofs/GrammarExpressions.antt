-- The reader of expressions is right.
use Rattle.std.proofs.Common.{Bool, Err, List, None, Option, Some, [], ap, ap₂, codes, cond, false, inl, inr, is_some, map, pred, refl, subst, suc, sym, true, zero, ℕ, ◌++◌, ◌∙◌, ◌∷◌, ◌≡◌}
use Rattle.std.proofs.lemmas.Slice.Eq.{bytes_eq-Decides}
use Rattle.std.specs.Str.{bytes_eq}
use Rattle.program_tokens.specs.steps.Front.{is_plain, sees}
use Rattle.program_tokens.specs.Words.{is_name}
use Rattle.program_tokens.specs.declared.token.Lexeme.{Lexeme}
use Rattle.program_tokens.specs.declared.token.Lexeme.TheVariants as lexeme
use Rattle.program_tokens.specs.declared.token.Token.{Token}
use Rattle.program_tokens.specs.steps.Parsers.{Parser, ident, peek, pure, taken, ◌>>=◌}
use Rattle.program_tokens.specs.Pieces.{Fits, Piece, int, name, placed, plain, quoted, comma_separated}
use Rattle.function_language.specs.steps.Reading.{behind, call, call_of, expr, literal, literal_at, literal_in, named, or_read}
use Rattle.function_language.specs.steps.SpelledLists.{call_pieces}
use Rattle.function_language.specs.Spelled.{args_pieces, expr_pieces, opened}
use Rattle.function_language.specs.declared.tree.Expr.{Call', Expr, Int, Name, Round, Row_of-Expr, Text, end_of-Expr, items-the_row-Expr, items_hidden-the_row-Expr-0, items_shown-the_row-Expr-0, more_of-Expr, out-Expr, roll-Expr, roll-out-Expr}
use Rattle.function_language.specs.declared.tree.Expr.TheBlock.{hidden-the_row-Expr-0, shape-the_row-Expr-0}
use Rattle.function_language.specs.declared.tree.Expr.TheVariants as an_expr
use Rattle.program_tokens.specs.declared.token.Ident.{Ident}
use Rattle.program_tokens.proofs.Right.{Exactly, Right, RightAt, Spells, Stops, respelled, restopped}
use Rattle.program_tokens.proofs.Sequences.{Follows, Then, then_at}
use Rattle.program_tokens.proofs.Choices.{Either, Not, choose_at}
use Rattle.program_tokens.proofs.Firsts.{Free, Heads, Stopping, Unfilled, begins_follows, free_follows, refuse_right}
use Rattle.program_tokens.proofs.OneToken.{One, ident_right, one_right, some_same}
use Rattle.program_tokens.proofs.Parts.{Made, last_part, made_begins, nothing_follows, pure_made, word_then}
use Rattle.program_tokens.proofs.Avoiding.{Avoids, Unseen, int_avoids, name_avoids, peek_right, placed_avoids, plain_avoids, quoted_avoids, refused_unseen}
use Rattle.program_tokens.proofs.Many.{closed_right}

-- ---- rows and lists

-- a call is made of the list of its arguments
pub call_of_row : (i : Ident) (shape : List (Unit {0})) (row : _) → Call' i shape row ≡ an_expr.Call i (items-the_row-Expr _ row)
unfolding roll-Expr denote.Hole.Carrier.roll out-Expr denote.Hole.Carrier.out
call_of_row i shape row = sym (roll-out-Expr (Call' i shape row)) ∙ ap (an_expr.Call i) (items_shown-the_row-Expr-0 shape row)

-- the arguments of a row are spelled as those of its list
pub args_of_row : (n : _) (depth : ℕ) (row : Row_of-Expr n) → args_pieces depth row ≡ map (expr_pieces depth) (items-the_row-Expr n row)
args_of_row n depth end_of-Expr = refl
args_of_row n depth (more_of-Expr arg args) = ap (◌∷◌ (expr_pieces depth arg)) (args_of_row _ depth args)

-- a call in a tree is spelled as the list of its arguments
row_pieces_are : (depth : ℕ) (i : Ident) (shape : List (Unit {0})) (row : _) → expr_pieces depth (Call' i shape row) ≡ name i ∷ call_pieces depth (items-the_row-Expr _ row)
row_pieces_are depth i shape row = ap (λ args. name i ∷ opened depth (codes "(") ∷ comma_separated args ++ plain (codes ")") ∷ []) (args_of_row _ (pred depth) row)

-- a call of these arguments is spelled as they are
pub call_spelled : (depth : ℕ) (i : Ident) (args : List Expr) → expr_pieces depth (an_expr.Call i args) ≡ name i ∷ call_pieces depth args
call_spelled depth i args = row_pieces_are depth i (shape-the_row-Expr-0 args) (hidden-the_row-Expr-0 args) ∙ ap (λ args. name i ∷ call_pieces depth args) (items_hidden-the_row-Expr-0 args)

-- ---- literals

-- the place of an expression that is one token and no name
abbrev LiteralPlace : Expr → Piece → Type 0
LiteralPlace (Int line value) piece = piece ≡ int (record { value = value; line = line })
LiteralPlace (Text line value) piece = piece ≡ quoted value line
LiteralPlace (Round line) piece = piece ≡ placed (codes "round") line
LiteralPlace (Name i) piece = ⊥
LiteralPlace (Call' i shape row) piece = ⊥

-- the token fits the place
abbrev FitsLiteral : Piece → ℕ → Lexeme → Type 0
FitsLiteral piece line l = Fits piece (record { lexeme = l; line = line })

-- the expression has a place that the token fits
abbrev PlaceOf : ℕ → Lexeme → Expr → Type 0
PlaceOf line l e = (piece : Piece) × LiteralPlace e piece × FitsLiteral piece line l

-- the word that is read as an expression is `round`
round_place : (line : ℕ) (word : List ℕ) (e : Expr) (b : Bool) → bytes_eq word (codes "round") ≡ b → cond b (Some (an_expr.Round line)) None ≡ Some e → PlaceOf line (lexeme.Plain word) e
round_place line word e true t f = subst (PlaceOf line (lexeme.Plain word)) (some_same (an_expr.Round line) e f) (placed (codes "round") line, refl, (ap lexeme.Plain ((bytes_eq-Decides word (codes "round")).0 t), refl))
round_place line word e false t f = absurd cc

-- a token that is read as an expression fits its place
literal_place : (line : ℕ) (l : Lexeme) (e : Expr) → literal_in line l ≡ Some e → PlaceOf line l e
literal_place line (lexeme.Plain word) e f = round_place line word e (bytes_eq word (codes "round")) refl f
literal_place line (lexeme.Int n) e f = subst (PlaceOf line (lexeme.Int n)) (some_same (an_expr.Int line n) e f) (int (record { value = n; line = line }), refl, (refl, refl))
literal_place line (lexeme.Quoted text) e f = subst (PlaceOf line (lexeme.Quoted text)) (some_same (an_expr.Text line text) e f) (quoted text line, refl, (refl, refl))
literal_place line lexeme.Bad e f = absurd cc
literal_place line lexeme.End e f = absurd cc

-- a token that fits the place of an expression is read as it
literal_reads : (line : ℕ) (l : Lexeme) (e : Expr) (piece : Piece) → LiteralPlace e piece → FitsLiteral piece line l → literal_in line l ≡ Some e
literal_reads line l (Int at value) piece p f = let g = subst (λ piece. FitsLiteral piece line l) p f in ap₂ literal_in g.1 g.0
literal_reads line l (Text at value) piece p f = let g = subst (λ piece. FitsLiteral piece line l) p f in ap₂ literal_in g.1 g.0
literal_reads line l (Round at) piece p f = let g = subst (λ piece. FitsLiteral piece line l) p f in ap₂ literal_in g.1 g.0
literal_reads line l (Name i) piece p f = absurd p
literal_reads line l (Call' i shape row) piece p f = absurd p

-- an expression that is one token and no name
literal_right : (stops : Stops) → Right (One LiteralPlace) stops (λ ts. taken (literal_at ts) ts)
literal_right stops = one_right (λ token. literal_in token.line token.lexeme) LiteralPlace (λ ts. taken (literal_at ts) ts) stops
    refl
    (λ token tokens. refl)
    (λ token e f. literal_place token.line token.lexeme e f)
    (λ token e piece p f. literal_reads token.line token.lexeme e piece p f)
    (record { value = Round 0; pieces = placed (codes "round") 0 ∷ []; spelled = (placed (codes "round") 0, refl, refl) })

-- ---- names and calls

-- a call, behind its name
abbrev Called : ℕ → Ident → Spells Expr
Called depth i = Made (λ args. an_expr.Call i args) (call_pieces depth)

-- a name alone, behind it
abbrev Alone : Ident → Spells Expr
Alone i = Made {C = Unit {0}} (λ _. Name i) (λ _. [])

-- what stands behind a name
abbrev Behind : ℕ → Ident → Spells Expr
Behind depth i = Either (Called depth i) (Alone i)

-- how an expression goes on behind a name
behind_name : (depth : ℕ) (i : Ident) → ((ts : List Token) → sees (codes "(") ts ≡ false → call depth i ts ≡ Err ts) → Right (Called depth i) Free (call depth i)
    → Right (Behind depth i) (Unseen (codes "(")) (peek (codes "(") >>= λ opens. cond opens (call depth i) (pure (an_expr.Name i)))
behind_name depth i guard r = peek_right (codes "(") {one = Called depth i} {other = Alone i} (call depth i) (pure (an_expr.Name i)) guard
    (λ ts. restopped (λ rest stop. tt) (r ts))
    (pure_made {C = Unit {0}} (λ _. Name i) (λ _. []) (Unseen (codes "(")) tt (λ _. refl) (λ _. refl))
    (nothing_follows (λ _. Name i) (Unseen (codes "(")) (Unseen (codes "(")) (λ rest stop. stop))

-- a name, and what stands behind it
abbrev Named : ℕ → Spells Expr
Named depth = Then (Exactly (λ i. name i ∷ [])) (Behind depth)

-- calls of this depth are read right
abbrev CallRight : ℕ → Type 0
CallRight depth = (i : Ident) → Right (Called depth i) Free (call depth i)

-- without its `(` a call is refused
call_guard : (depth : ℕ) (i : Ident) (ts : List Token) → sees (codes "(") ts ≡ false → call depth i ts ≡ Err ts
unfolding call_of
call_guard zero i ts e = refl
call_guard (suc depth) i ts e = refused_unseen (codes "(") _ ts e

-- a name or a call
named_right : (depth : ℕ) → CallRight depth → Right (Named depth) (Unseen (codes "(")) (named (call depth))
unfolding named
named_right depth r ts = then_at (Exactly (λ i. name i ∷ [])) (Behind depth) Free (Unseen (codes "(")) ts (ident ts) (λ i. peek (codes "(") >>= λ opens. cond opens (call depth i) (pure (an_expr.Name i)))
    (ident_right Free ts)
    (λ i mid e. behind_name depth i (call_guard depth i) (r i) mid)
    (λ i. record { value = Name i; pieces = []; spelled = inr (record { parts = tt; made = refl; as_parts = refl }) })
    (λ i. free_follows (Behind depth i) (Unseen (codes "(")))

-- ---- expressions

-- the first token is an expression by itself, and no name
abbrev is_literal : List Token → Bool
is_literal ts = is_some (literal_at ts)

-- to take a literal if one comes, and else to read on, is to choose by it
found_or_read : (q : Parser Expr) (ts : List Token) → (literal >>= λ found. or_read found q) ts ≡ cond (is_literal ts) (taken (literal_at ts) ts) (q ts)
unfolding literal
found_or_read q ts = go (literal_at ts)
  where
    go : (found : Option Expr) → or_read found q (behind found ts) ≡ cond (is_some found) (taken found ts) (q ts)
    go None = refl
    go (Some e) = refl

-- where no literal comes, none is taken
literal_guard : (ts : List Token) → is_literal ts ≡ false → taken (literal_at ts) ts ≡ Err ts
literal_guard ts = go (literal_at ts)
  where
    go : (found : Option Expr) → is_some found ≡ false → taken found ts ≡ Err ts
    go None e = refl
    go (Some a) e = absurd cc

-- a name is no literal
name_no_literal : (i : Ident) → Stopping (Not is_literal) (name i)
name_no_literal i token tokens fits = ap (λ l. is_some (literal_in token.line l)) fits.0 ∙ ap (λ b. is_some (cond b (Some (an_expr.Round token.line)) None)) (sym (ap (is_plain (codes "round")) fits.0) ∙ name_avoids (codes "round") i refl token tokens fits)

-- a name or a call begins with no literal
named_follows : (depth : ℕ) → Follows (Named depth) (Unseen (codes "(")) (Not is_literal)
named_follows depth = begins_follows (Named depth) (Unseen (codes "(")) (Not is_literal)
    (λ e pieces t. subst (Heads (Stopping (Not is_literal))) (sym (t.joined ∙ ap (λ front. front ++ t.back) t.begins)) (name_no_literal t.a))

-- a literal is spelled as an expression
literal_spelled : (depth : ℕ) (e : Expr) (piece : Piece) → LiteralPlace e piece → piece ∷ [] ≡ expr_pieces depth e
literal_spelled depth (Int line value) piece p = ap (λ piece. piece ∷ []) p
literal_spelled depth (Text line value) piece p = ap (λ piece. piece ∷ []) p
literal_spelled depth (Round line) piece p = ap (λ piece. piece ∷ []) p
literal_spelled depth (Name i) piece p = absurd p
literal_spelled depth (Call' i shape row) piece p = absurd p

-- a name and what stands behind it are spelled as an expression
behind_spelled : (depth : ℕ) (i : Ident) (e : Expr) (back : List Piece) → Behind depth i e back → name i ∷ back ≡ expr_pieces depth e
behind_spelled depth i e back (inl m) = ap (◌∷◌ (name i)) m.as_parts ∙ sym (call_spelled depth i m.parts) ∙ ap (expr_pieces depth) (sym m.made)
behind_spelled depth i e back (inr m) = ap (◌∷◌ (name i)) m.as_parts ∙ ap (expr_pieces depth) (sym m.made)

-- a literal, a name or a call is an expression
expr_to : (depth : ℕ) (e : Expr) (pieces : List Piece) → Either (One LiteralPlace) (Named depth) e pieces → pieces ≡ expr_pieces depth e
expr_to depth e pieces (inl o) = o.2 ∙ literal_spelled depth e o.0 o.1
expr_to depth e pieces (inr t) = t.joined ∙ ap (λ front. front ++ t.back) t.begins ∙ behind_spelled depth t.a e t.back t.goes_on

-- an expression is a literal, a name or a call
expr_from : (depth : ℕ) (e : Expr) (pieces : List Piece) → pieces ≡ expr_pieces depth e → Either (One LiteralPlace) (Named depth) e pieces
expr_from depth (Int line value) pieces f = inl (_, refl, f)
expr_from depth (Text line value) pieces f = inl (_, refl, f)
expr_from depth (Round line) pieces f = inl (_, refl, f)
expr_from depth (Name i) pieces f = inr (record {
  a = i;
  front = name i ∷ [];
  back = [];
  begins = refl;
  goes_on = inr (record { parts = tt; made = refl; as_parts = refl });
  joined = f;
})
expr_from depth (Call' i shape row) pieces f = inr (record {
  a = i;
  front = name i ∷ [];
  back = call_pieces depth (items-the_row-Expr _ row);
  begins = refl;
  goes_on = inl (record { parts = items-the_row-Expr _ row; made = call_of_row i shape row; as_parts = refl });
  joined = f ∙ row_pieces_are depth i shape row;
})

-- an expression, where calls are read right
expr_right_of : (depth : ℕ) → CallRight depth → Right (Exactly (expr_pieces depth)) (Unseen (codes "(")) (expr depth)
expr_right_of depth r ts = respelled (expr_to depth) (expr_from depth)
    (subst (RightAt (Either (One LiteralPlace) (Named depth)) (Unseen (codes "(")) ts) (sym (found_or_read (named (call depth)) ts))
    (choose_at (One LiteralPlace) (Named depth) (Unseen (codes "(")) is_literal ts (taken (literal_at ts) ts) (named (call depth) ts)
    (literal_guard ts) (literal_right (Unseen (codes "(")) ts) (named_right depth r ts) (named_follows depth)))

-- an expression begins with no mark, and with no word but `round`
pub expr_first : (depth : ℕ) (word : List ℕ) (e : Expr) → is_name word ≡ false → bytes_eq (codes "round") word ≡ false → Heads (Avoids word) (expr_pieces depth e)
expr_first depth word (Int line value) n r = int_avoids word _
expr_first depth word (Text line value) n r = quoted_avoids word value line
expr_first depth word (Round line) n r = placed_avoids (codes "round") word line r
expr_first depth word (Name i) n r = name_avoids word i n
expr_first depth word (Call' i shape row) n r = name_avoids word i n

-- a call, behind its name
call_right : (depth : ℕ) → CallRight depth
unfolding call_of
call_right zero i = refuse_right (Called zero i) Free
    (record { value = _; pieces = _; spelled = record { parts = []; made = refl; as_parts = refl } })
    (made_begins Unfilled (λ args token fits. fits))
call_right (suc depth) i =
    word_then (codes "(") (last_part (an_expr.Call i) (closed_right (expr_pieces depth) (Unseen (codes "(")) Free (expr depth) (expr_right_of depth (call_right depth))
    (λ e. expr_first depth (codes ")") e refl refl) (plain_avoids (codes ",") (codes "(") refl) (plain_avoids (codes ")") (codes "(") refl)))

-- an expression
pub expr_right : (depth : ℕ) → Right (Exactly (expr_pieces depth)) (Unseen (codes "(")) (expr depth)
expr_right depth = expr_right_of depth (call_right depth)
