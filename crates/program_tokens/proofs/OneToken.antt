-- Readers of one token: words, marks, names and the end.
use Rattle.std.proofs.Common.{Bool, Err, List, None, Ok, Option, Some, [], ap, ap₂, arith, cond, false, length, option_map, refl, subst, sym, true, ℕ, ℤ, ◌++◌, ◌∙◌, ◌∷◌, ◌≡◌, ◌≤◌}
use Rattle.std.proofs.Math.IntN.{pos}
use Rattle.std.proofs.lemmas.Slice.Eq.{bytes_eq-Decides}
use Rattle.std.specs.Int.{is_negative}
use Rattle.program_tokens.specs.steps.Front.{is_end, is_plain, line_of, name_in}
use Rattle.program_tokens.specs.Words.{is_name}
use Rattle.program_tokens.specs.declared.token.Lexeme.{Lexeme}
use Rattle.program_tokens.specs.declared.token.Lexeme.TheVariants as lexeme
use Rattle.program_tokens.specs.declared.token.Token.{Token}
use Rattle.program_tokens.specs.steps.Parsers.{Outcome, Parser, and_then, expect, expect_end, expect_line, here, ident, natural, natural_in, number_of, pure, quoted, quoted_in, taken, ◌>>=◌}
use Rattle.program_tokens.specs.Pieces as piece
use Rattle.program_tokens.specs.Pieces.{Fits, Piece, Stand, end, name, placed, plain}
use Rattle.program_tokens.specs.declared.token.Ident.{Ident}
use Rattle.program_tokens.specs.declared.token.Number.{Number}
use Rattle.program_tokens.proofs.Right.{Exactly, Right, Sound, Spelled, Spells, Stops, Whole, left_of, never_grows, respelled}
use Rattle.program_tokens.proofs.Sequences.{first_same}

-- one place
abbrev pub One : {A : Type 0} → (A → Piece → Type 0) → Spells A
One place a pieces = (piece : Piece) × place a piece × (pieces ≡ piece ∷ [])

-- a token there alone
record Alone (piece : Piece) (front : List Token) : Type 0 where
  token : Token
  fits : Fits piece token
  is : front ≡ token ∷ []

-- where one place is spelled, one token stands
alone : (piece : Piece) (pieces : List Piece) (front : List Token) → pieces ≡ piece ∷ [] → Stand pieces front → Alone piece front
alone piece [] front e st = absurd cc
alone piece (x ∷ y ∷ pieces) front e st = absurd cc
alone piece (x ∷ []) [] e st = absurd st
alone piece (x ∷ []) (token ∷ []) e st = record { token = token; fits = subst (λ p. Fits p token) (first_same x piece [] [] e) st.0; is = refl }
alone piece (x ∷ []) (token ∷ more ∷ front) e st = absurd st.1

-- a list of one item has no more in front of others
no_more : {A : Type 0} (x y : A) (xs ys : List A) → x ∷ xs ++ ys ≡ y ∷ [] → xs ≡ []
no_more x y [] ys e = refl
no_more x y (z ∷ xs) ys e = absurd cc

module _ {A : Type 0} (read : Token → Option A) (place : A → Piece → Type 0) (p : Parser A) (stops : Stops)
    (at_none : p [] ≡ Err [])
    (at_some : (token : Token) (tokens : List Token) → p (token ∷ tokens) ≡ taken (read token) (token ∷ tokens))
    (fits : (token : Token) (a : A) → read token ≡ Some a → (piece : Piece) × place a piece × Fits piece token)
    (reads : (token : Token) (a : A) (piece : Piece) → place a piece → Fits piece token → read token ≡ Some a)
    (some : Spelled (One place)) where
  -- one token is read soundly
  one_sound : (token : Token) (tokens : List Token) (found : Option A) → read token ≡ found → Sound (One place) (token ∷ tokens) (taken found (token ∷ tokens))
  one_sound token tokens (Some a) e =
      let f = fits token a e in
      record { pieces = f.0 ∷ []; front = token ∷ []; spelled = (f.0, f.1, refl); stands = (f.2, tt); split = refl }
  one_sound token tokens None e = record { value = some.value; before = []; after = some.pieces; front = []; spelled = some.spelled; stands = tt; split = refl }

  -- the reader is sound
  sound_of_one : (ts : List Token) → Sound (One place) ts (p ts)
  sound_of_one [] = subst (Sound (One place) []) (sym at_none) (record { value = some.value; before = []; after = some.pieces; front = []; spelled = some.spelled; stands = tt; split = refl })
  sound_of_one (token ∷ tokens) = subst (Sound (One place) (token ∷ tokens)) (sym (at_some token tokens)) (one_sound token tokens (read token) refl)

  -- the token is read
  complete_of_one : (ts : List Token) (a : A) (rest : List Token) → Whole (One place) ts a rest → p ts ≡ Ok (a, rest)
  complete_of_one ts a rest w =
      let one = alone w.spelled.0 w.pieces w.front w.spelled.2 w.stands in
      let split : ts ≡ one.token ∷ rest = w.split ∙ ap (λ f. f ++ rest) one.is in
      ap p split ∙ at_some one.token rest ∙ ap (λ found. taken found (one.token ∷ rest)) (reads one.token a w.spelled.0 w.spelled.1 one.fits)

  -- the token is passed
  reaches_of_one : (ts others : List Token) (a : A) (before after : List Piece) (front : List Token) → One place a (before ++ after) → Stand before front → ts ≡ front ++ others → length (left_of (p ts)) ≤ length others
  reaches_of_one ts others a [] after [] s st e = subst (λ n. length (left_of (p ts)) ≤ n) (ap length e) (never_grows (One place) ts (p ts) (sound_of_one ts))
  reaches_of_one ts others a [] after (token ∷ front) s st e = absurd st
  reaches_of_one ts others a (x ∷ before) after front s st e =
      let only : x ∷ before ≡ s.0 ∷ [] = ap₂ ◌∷◌ (first_same x s.0 (before ++ after) [] s.2) (no_more x s.0 before after s.2) in
      let all = complete_of_one ts a others (record { pieces = x ∷ before; front = front; spelled = (s.0, s.1, only); stands = st; split = e }) in
      subst (λ o. length (left_of o) ≤ length others) (sym all) (omega arith)

  -- a reader of one token
  pub one_right : Right (One place) stops p
  one_right ts = record {
    sound = sound_of_one ts;
    complete = λ a rest w stop. complete_of_one ts a rest w;
    reaches = λ others w. reaches_of_one ts others w.value w.before w.after w.front w.spelled w.stands w.split;
  }

-- ---- words and marks

-- one place, which the value tells
one_exactly : {A : Type 0} (place : A → Piece) {stops : Stops} {p : Parser A} → Right (One (λ a piece. piece ≡ place a)) stops p → Right (Exactly (λ a. place a ∷ [])) stops p
one_exactly place r ts = respelled (λ a pieces o. o.2 ∙ ap (λ p. p ∷ []) o.1) (λ a pieces e. (place a, refl, e)) (r ts)

-- the value, if so
abbrev some_if : {A : Type 0} → Bool → A → Option A
some_if b a = cond b (Some a) None

-- if there is a value, it is so
some_if_true : {A : Type 0} (b : Bool) (a c : A) → some_if b a ≡ Some c → b ≡ true
some_if_true true a c e = refl
some_if_true false a c e = absurd cc

-- to take a token if it is so, and else to refuse, is to take what it is read as
taken_if : {A : Type 0} (b : Bool) (a : A) (token : Token) (tokens : List Token) → cond b (Ok (a, tokens)) (Err (token ∷ tokens)) ≡ taken (some_if b a) (token ∷ tokens)
taken_if true a token tokens = refl
taken_if false a token tokens = refl

-- a token that is this word
pub plain_is : (word : List ℕ) (l : Lexeme) → is_plain word l ≡ true → l ≡ lexeme.Plain word
plain_is word (lexeme.Plain other) e = ap lexeme.Plain ((bytes_eq-Decides other word).0 e)
plain_is word (lexeme.Int n) e = absurd cc
plain_is word (lexeme.Quoted text) e = absurd cc
plain_is word lexeme.Bad e = absurd cc
plain_is word lexeme.End e = absurd cc

-- this word is that word
pub is_plain_of : (word : List ℕ) (l : Lexeme) → l ≡ lexeme.Plain word → is_plain word l ≡ true
is_plain_of word l e = ap (is_plain word) e ∙ (bytes_eq-Decides word word).1 refl

-- a word or a mark
pub expect_right : (word : List ℕ) (stops : Stops) → Right (Exactly (λ _. plain word ∷ [])) stops (expect word)
unfolding expect
expect_right word stops = one_exactly (λ _. plain word) (one_right
    (λ token. some_if (is_plain word token.lexeme) tt) (λ _ piece. piece ≡ plain word) (expect word) stops
    refl
    (λ token tokens. taken_if (is_plain word token.lexeme) tt token tokens)
    (λ token a e. (plain word, refl, plain_is word token.lexeme (some_if_true (is_plain word token.lexeme) tt a e)))
    (λ token a piece e fits. ap (λ b. some_if b tt) (is_plain_of word token.lexeme (subst (λ piece. Fits piece token) e fits)))
    (record { value = tt; pieces = plain word ∷ []; spelled = (plain word, refl, refl) }))

-- the line that is told is that of the token
line_found : (b : Bool) (line found : ℕ) → some_if b line ≡ Some found → line ≡ found
line_found true line found e = cc
line_found false line found e = absurd cc

-- the same, with its line
pub expect_line_right : (word : List ℕ) (stops : Stops) → Right (Exactly (λ line. placed word line ∷ [])) stops (expect_line word)
unfolding expect_line
expect_line_right word stops = one_exactly (placed word) (one_right
    (λ token. some_if (is_plain word token.lexeme) token.line) (λ line piece. piece ≡ placed word line) (expect_line word) stops
    refl
    (λ token tokens. taken_if (is_plain word token.lexeme) token.line token tokens)
    (λ token a e. (placed word a, refl, (plain_is word token.lexeme (some_if_true (is_plain word token.lexeme) token.line a e), line_found (is_plain word token.lexeme) token.line a e)))
    (λ token a piece e fits. let f = subst (λ piece. Fits piece token) e fits in ap₂ some_if (is_plain_of word token.lexeme f.0) f.1)
    (record { value = 0; pieces = placed word 0 ∷ []; spelled = (placed word 0, refl, refl) }))

-- ---- the end

-- a token that is the end
end_is : (l : Lexeme) → is_end l ≡ true → l ≡ lexeme.End
end_is (lexeme.Plain other) e = absurd cc
end_is (lexeme.Int n) e = absurd cc
end_is (lexeme.Quoted text) e = absurd cc
end_is lexeme.Bad e = absurd cc
end_is lexeme.End e = refl

-- the end
pub end_right : (stops : Stops) → Right (Exactly (λ _. end ∷ [])) stops expect_end
unfolding expect_end
end_right stops = one_exactly (λ _. end) (one_right
    (λ token. some_if (is_end token.lexeme) tt) (λ _ piece. piece ≡ end) expect_end stops
    refl
    (λ token tokens. taken_if (is_end token.lexeme) tt token tokens)
    (λ token a e. (end, refl, end_is token.lexeme (some_if_true (is_end token.lexeme) tt a e)))
    (λ token a piece e fits. ap (λ l. some_if (is_end l) tt) (subst (λ piece. Fits piece token) e fits))
    (record { value = tt; pieces = end ∷ []; spelled = (end, refl, refl) }))

-- ---- names

-- the name that a token is
abbrev ident_of : ℕ → Lexeme → Option Ident
ident_of line l = option_map (λ text. record { text = text; line = line }) (name_in l)

-- where it is the same to have them, two values are the same
pub some_same : {A : Type 0} (a b : A) → Some a ≡ Some b → a ≡ b
some_same a b e = cc

-- the token is this name
abbrev IsIdent : Ident → ℕ → Lexeme → Type 0
IsIdent i line l = (l ≡ lexeme.Plain i.text) × (line ≡ i.line) × (is_name i.text ≡ true)

-- a word that is read as a name is that name
word_ident : (line : ℕ) (word : List ℕ) (b : Bool) (i : Ident) → is_name word ≡ b → option_map (λ text. record { text = text; line = line }) (cond b (Some word) None) ≡ Some i → IsIdent i line (lexeme.Plain word)
word_ident line word true i n e =
    let same : record { text = word; line = line } ≡ i = some_same _ i e in
    (ap (λ i. lexeme.Plain i.text) same, ap (λ i. i.line) same, subst (λ i. is_name i.text ≡ true) same n)
word_ident line word false i n e = absurd cc

-- a token that is read as a name is that name
ident_is : (line : ℕ) (l : Lexeme) (i : Ident) → ident_of line l ≡ Some i → IsIdent i line l
ident_is line (lexeme.Plain word) i e = word_ident line word (is_name word) i refl e
ident_is line (lexeme.Int n) i e = absurd cc
ident_is line (lexeme.Quoted text) i e = absurd cc
ident_is line lexeme.Bad i e = absurd cc
ident_is line lexeme.End i e = absurd cc

-- a name is read as itself
is_ident : (line : ℕ) (l : Lexeme) (i : Ident) → IsIdent i line l → ident_of line l ≡ Some i
is_ident line l i f = ap (ident_of line) f.0 ∙ ap (λ b. option_map (λ text. record { text = text; line = line }) (cond b (Some i.text) None)) f.2 ∙ ap (λ line. Some (record { text = i.text; line = line })) f.1

-- a name
pub ident_right : (stops : Stops) → Right (Exactly (λ i. name i ∷ [])) stops ident
unfolding ident
ident_right stops = one_exactly name (one_right
    (λ token. ident_of token.line token.lexeme) (λ i piece. piece ≡ name i) ident stops
    refl
    (λ token tokens. refl)
    (λ token a e. (name a, refl, ident_is token.line token.lexeme a e))
    (λ token a piece e fits. is_ident token.line token.lexeme a (subst (λ piece. Fits piece token) e fits))
    (record { value = record { text = []; line = 0 }; pieces = name (record { text = []; line = 0 }) ∷ []; spelled = (name (record { text = []; line = 0 }), refl, refl) }))

-- ---- numbers that are not negative

-- the token is this number, which is not negative
abbrev IsNatural : Number → ℕ → Lexeme → Type 0
IsNatural n line l = (l ≡ lexeme.Int n.value) × (line ≡ n.line) × (is_negative n.value ≡ false)

-- a value that is read as a number is that number
value_natural : (line : ℕ) (value : ℤ) (b : Bool) (n : Number) → is_negative value ≡ b → cond b None (Some (number_of line value)) ≡ Some n → IsNatural n line (lexeme.Int value)
value_natural line value true n b e = absurd cc
value_natural line value false n b e =
    let same : number_of line value ≡ n = some_same _ n e in
    (ap (λ n. lexeme.Int n.value) same, ap (λ n. n.line) same, subst (λ n. is_negative n.value ≡ false) same b)

-- a token that is read as a number is that number
natural_is : (line : ℕ) (l : Lexeme) (n : Number) → natural_in line l ≡ Some n → IsNatural n line l
natural_is line (lexeme.Plain word) n e = absurd cc
natural_is line (lexeme.Int value) n e = value_natural line value (is_negative value) n refl e
natural_is line (lexeme.Quoted text) n e = absurd cc
natural_is line lexeme.Bad n e = absurd cc
natural_is line lexeme.End n e = absurd cc

-- a number is read as itself
is_natural : (line : ℕ) (l : Lexeme) (n : Number) → IsNatural n line l → natural_in line l ≡ Some n
is_natural line l n f = ap (natural_in line) f.0 ∙ ap (λ b. cond b None (Some (number_of line n.value))) f.2 ∙ ap (λ line. Some (number_of line n.value)) f.1

-- a number that is not negative
pub natural_right : (stops : Stops) → Right (Exactly (λ n. piece.natural n ∷ [])) stops natural
unfolding natural
natural_right stops = one_exactly piece.natural (one_right
    (λ token. natural_in token.line token.lexeme) (λ n place. place ≡ piece.natural n) natural stops
    refl
    (λ token tokens. refl)
    (λ token a e. (piece.natural a, refl, natural_is token.line token.lexeme a e))
    (λ token a place e fits. is_natural token.line token.lexeme a (subst (λ place. Fits place token) e fits))
    (record { value = number_of 0 (pos 0); pieces = piece.natural (number_of 0 (pos 0)) ∷ []; spelled = (piece.natural (number_of 0 (pos 0)), refl, refl) }))

-- ---- texts

-- a text, and the line in which it stands
abbrev Placed : Type 0
Placed = List ℕ × ℕ

-- a text and its line
abbrev pub quoted_line : Parser Placed
quoted_line = here >>= λ line. quoted >>= λ text. pure (text, line)

-- the text that a token is, and the line of the token
abbrev placed_text : ℕ → Lexeme → Option Placed
placed_text line l = option_map (λ text. (text, line)) (quoted_in l)

-- to take a token and make something of it is to take it as that
taken_made : {A B : Type 0} (f : A → B) (found : Option A) (ts : List Token) → and_then (taken found ts) (λ a. pure (f a)) ≡ taken (option_map f found) ts
taken_made f (Some a) ts = refl
taken_made f None ts = refl

-- a token that is read as a text is that text
text_is : (line : ℕ) (l : Lexeme) (q : Placed) → placed_text line l ≡ Some q → (l ≡ lexeme.Quoted q.0) × (line ≡ q.1)
text_is line (lexeme.Plain word) q e = absurd cc
text_is line (lexeme.Int n) q e = absurd cc
text_is line (lexeme.Quoted text) q e = let same : (text, line) ≡ q = some_same _ q e in (ap (λ (q : Placed). lexeme.Quoted q.0) same, ap (λ (q : Placed). q.1) same)
text_is line lexeme.Bad q e = absurd cc
text_is line lexeme.End q e = absurd cc

-- a text is read as itself
is_text : (line : ℕ) (l : Lexeme) (q : Placed) → (l ≡ lexeme.Quoted q.0) × (line ≡ q.1) → placed_text line l ≡ Some q
is_text line l q f = ap (placed_text line) f.0 ∙ ap (λ line. placed_text line (lexeme.Quoted q.0)) f.1

-- a text
pub quoted_right : (stops : Stops) → Right (Exactly (λ q. piece.quoted q.0 q.1 ∷ [])) stops quoted_line
unfolding quoted
quoted_right stops = one_exactly (λ (q : Placed). piece.quoted q.0 q.1) (one_right
    (λ token. placed_text token.line token.lexeme) (λ q place. place ≡ piece.quoted q.0 q.1) quoted_line stops
    refl
    (λ token tokens. taken_made (λ text. (text, token.line)) (quoted_in token.lexeme) (token ∷ tokens))
    (λ token a e. (piece.quoted a.0 a.1, refl, text_is token.line token.lexeme a e))
    (λ token a place e fits. is_text token.line token.lexeme a (subst (λ place. Fits place token) e fits))
    (record { value = ([], 0); pieces = piece.quoted [] 0 ∷ []; spelled = (piece.quoted [] 0, refl, refl) }))

-- to tell the line first, and then to read a text and go on, is to go on behind both
pub text_of_line : {A : Type 0} (f : List ℕ → ℕ → Parser A) (ts : List Token) → (here >>= λ line. quoted >>= λ text. f text line) ts ≡ (quoted_line >>= λ q. f q.0 q.1) ts
text_of_line f ts = go (quoted ts)
  where
    go : (o : Outcome (List ℕ)) → and_then o (λ text. f text (line_of ts)) ≡ and_then (and_then o (λ text. pure (text, line_of ts))) (λ (q : Placed). f q.0 q.1)
    go (Ok p) = refl
    go (Err left) = refl
