-- What a right reader that goes to the end comes to for the tokens of a text.
use Rattle.std.proofs.Common.{◌≡◌, ℕ, suc, ◌≤◌, Ok, Err, List, [], ◌∷◌, ◌++◌, length, refl, sym, ap, ◌∙◌, subst, append_assoc, append-nil, arith}
use Rattle.program_tokens.specs.declared.token.Lexeme.{Lexeme}
use Rattle.program_tokens.specs.declared.token.Lexeme.TheVariants as lexeme
use Rattle.program_tokens.specs.declared.token.Token.{Token}
use Rattle.program_tokens.specs.steps.Front.{line_of}
use Rattle.program_tokens.specs.Tokens.{AreTokens, AreTokensOf, Follows, TextHasOneTokenList, from_token}
use Rattle.program_tokens.specs.steps.Parsers.{Outcome, Parser}
use Rattle.program_tokens.specs.Pieces.{Piece, plain, placed, name, int, natural, quoted, end, nothing, Fits, Stand}
use Rattle.program_tokens.specs.Texts.{Begins, HasFaultAt, IsOfOneTree, IsTextOf}
use Rattle.program_tokens.proofs.Inner.{AreInner, IsInner}
use Rattle.program_tokens.proofs.Right.{Part, Right, Sound, Whole, left_of}
use Rattle.program_tokens.proofs.Sequences as cut
use Rattle.program_tokens.proofs.Sequences.{Cuts, cut_places, cuts, first_same, later_same}

-- the token is neither the end nor what is no token
abbrev pub GoesOn : Lexeme → Type 0
GoesOn (lexeme.Plain word) = Unit {0}
GoesOn (lexeme.Int n) = Unit {0}
GoesOn (lexeme.Quoted text) = Unit {0}
GoesOn lexeme.Bad = ⊥
GoesOn lexeme.End = ⊥

went : (found : Lexeme) (is : Lexeme) → found ≡ is → GoesOn is → GoesOn found
went found is e g = subst GoesOn (sym e) g

inner_goes_on : (piece : Piece) (token : Token) → IsInner piece → Fits piece token → GoesOn token.lexeme
inner_goes_on (plain word) token i f = went token.lexeme (lexeme.Plain word) f tt
inner_goes_on (placed word line) token i f = went token.lexeme (lexeme.Plain word) f.0 tt
inner_goes_on (name ident) token i f = went token.lexeme (lexeme.Plain ident.text) f.0 tt
inner_goes_on (int number) token i f = went token.lexeme (lexeme.Int number.value) f.0 tt
inner_goes_on (natural number) token i f = went token.lexeme (lexeme.Int number.value) f.0 tt
inner_goes_on (quoted text line) token i f = went token.lexeme (lexeme.Quoted text) f.0 tt
inner_goes_on end token i f = absurd i
inner_goes_on nothing token i f = absurd f

-- tokens of a text, which go on up to the last
abbrev Lasts : List Token → Type 0
Lasts [] = ⊥
Lasts (token ∷ []) = GoesOn token.lexeme → ⊥
Lasts (token ∷ next ∷ tokens) = GoesOn token.lexeme × Lasts (next ∷ tokens)

last_follows : (found : Lexeme) (token : Token) (text : List ℕ) (tokens : List Token) (on : List ℕ → Type 0) → ((rest : List ℕ) → on rest → Lasts tokens) → token.lexeme ≡ found → Follows found text tokens on → Lasts (token ∷ tokens)
last_follows lexeme.End token text tokens on more e f = rw f.1 (λ g. subst GoesOn e g)
last_follows lexeme.Bad token text tokens on more e f = rw f.1 (λ g. subst GoesOn e g)
last_follows (lexeme.Plain word) token text [] on more e f = absurd (more f.0 f.2)
last_follows (lexeme.Plain word) token text (next ∷ tokens) on more e f = (went token.lexeme (lexeme.Plain word) e tt, more f.0 f.2)
last_follows (lexeme.Int n) token text [] on more e f = absurd (more f.0 f.2)
last_follows (lexeme.Int n) token text (next ∷ tokens) on more e f = (went token.lexeme (lexeme.Int n) e tt, more f.0 f.2)
last_follows (lexeme.Quoted text') token text [] on more e f = absurd (more f.0 f.2)
last_follows (lexeme.Quoted text') token text (next ∷ tokens) on more e f = (went token.lexeme (lexeme.Quoted text') e tt, more f.0 f.2)

lasts : (last : ℕ) (text : List ℕ) (tokens : List Token) → AreTokens last text tokens → Lasts tokens
lasts last text [] a = absurd a
lasts last text (token ∷ tokens) a = last_follows token.lexeme token (from_token text) tokens (λ rest. AreTokens last rest tokens) (λ rest b. lasts last rest tokens b) refl a.1

stand_none : (pieces : List Piece) → Stand (pieces ++ end ∷ []) [] → ⊥
stand_none [] s = s
stand_none (piece ∷ pieces) s = s

-- behind the end there is nothing
stand_ends : (pieces : List Piece) (front rest : List Token) → Stand (pieces ++ end ∷ []) front → Lasts (front ++ rest) → rest ≡ []
stand_ends [] [] rest s l = absurd s
stand_ends [] (token ∷ []) [] s l = refl
stand_ends [] (token ∷ []) (next ∷ rest) s l = absurd (subst GoesOn s.0 l.0)
stand_ends [] (token ∷ next ∷ front) rest s l = absurd s.1
stand_ends (piece ∷ pieces) [] rest s l = absurd s
stand_ends (piece ∷ pieces) (token ∷ []) rest s l = absurd (stand_none pieces s.1)
stand_ends (piece ∷ pieces) (token ∷ next ∷ front) rest s l = stand_ends pieces (next ∷ front) rest s.1 l.1

-- where all places are inner ones, the tokens are not all of a text
not_all : (pieces : List Piece) (front : List Token) → AreInner pieces → Stand pieces front → Lasts front → ⊥
not_all [] [] a s l = l
not_all [] (token ∷ front) a s l = s
not_all (piece ∷ pieces) [] a s l = s
not_all (piece ∷ pieces) (token ∷ []) a s l = l (inner_goes_on piece token a.0 s.0)
not_all (piece ∷ pieces) (token ∷ next ∷ front) a s l = not_all pieces (next ∷ front) a.1 s.1 l.1

none_more : (after : List Piece) (x : Piece) → x ∷ after ≡ [] → ⊥
none_more after x e = cc

some_more : (before after : List Piece) (x more : Piece) → more ∷ before ++ x ∷ after ≡ [] → ⊥
some_more before after x more e = cc

-- what stands before the last place is inner
front_inner : (before after inner : List Piece) (x : Piece) → before ++ x ∷ after ≡ inner ++ end ∷ [] → AreInner inner → AreInner before
front_inner [] after inner x e a = tt
front_inner (piece ∷ []) after [] x e a = absurd (none_more after x (later_same _ _ _ _ e))
front_inner (piece ∷ more ∷ before) after [] x e a = absurd (some_more before after x more (later_same _ _ _ _ e))
front_inner (piece ∷ before) after (first ∷ inner) x e a = (subst IsInner (sym (first_same _ _ _ _ e)) a.0, front_inner before after inner x (later_same _ _ _ _ e) a.1)

abbrev value_of : {A : Type 0} → A → Outcome A → A
value_of other (Ok p) = p.0
value_of other (Err left) = other

ok_same : {A : Type 0} (o : Outcome A) (a b : A) (xs ys : List Token) → o ≡ Ok (a, xs) → o ≡ Ok (b, ys) → a ≡ b
ok_same o a b xs ys e f = ap (value_of a) (sym e ∙ f)

ok_no_err : {A : Type 0} (o : Outcome A) (a : A) (xs ys : List Token) → o ≡ Ok (a, xs) → o ≡ Err ys → ⊥
ok_no_err o a xs ys e f = cc

module _ {A : Type 0} {spelled : A → List Piece} (inner : A → List Piece) (whole : (a : A) → spelled a ≡ inner a ++ end ∷ []) (kept : (a : A) → AreInner (inner a)) {p : Parser A} (right : Right (λ a pieces. pieces ≡ spelled a) (λ _. Unit {0}) p) where
  -- what was read is what the text is of
  pub text_read : (text : List ℕ) (ts rest : List Token) (a : A) → AreTokensOf text ts → p ts ≡ Ok (a, rest) → IsTextOf spelled text a
  text_read text ts rest a are e =
      let w : Whole (λ a pieces. pieces ≡ spelled a) ts a rest = subst (Sound (λ a pieces. pieces ≡ spelled a) ts) e (right ts).sound in
      let stand : Stand (spelled a) w.front = subst (λ pieces. Stand pieces w.front) w.spelled w.stands in
      let none : rest ≡ [] = stand_ends (inner a) w.front rest (subst (λ pieces. Stand pieces w.front) (whole a) stand) (subst Lasts w.split (lasts _ text ts are)) in
      let same : w.front ≡ ts = sym (append-nil w.front) ∙ ap (λ left. w.front ++ left) (sym none) ∙ sym w.split in
      record { tokens = ts; are = are; stand = subst (Stand (spelled a)) same stand }

  -- the tree of a text is what is read
  pub read_text : (text : List ℕ) (a : A) (t : IsTextOf spelled text a) → p t.tokens ≡ Ok (a, [])
  read_text text a t = (right t.tokens).complete a [] (record { pieces = spelled a; front = t.tokens; spelled = refl; stands = t.stand; split = sym (append-nil t.tokens) }) tt

  pub one_tree : TextHasOneTokenList → IsOfOneTree spelled
  one_tree law text some other a b =
      let same : b.tokens ≡ a.tokens = law text b.tokens a.tokens b.are a.are in
      ok_same (p a.tokens) some other [] [] (read_text text some a) (ap p (sym same) ∙ read_text text other b)

  -- not all tokens are the beginning of a tree where the reader refuses
  no_rest : (text : List ℕ) (ts left : List Token) → AreTokensOf text ts → p ts ≡ Err left → (a : A) (before after : List Piece) → Stand before ts → before ++ after ≡ spelled a → ⊥
  no_rest text ts left are e a before [] stand is =
      let read : p ts ≡ Ok (a, []) = (right ts).complete a [] (record { pieces = before; front = ts; spelled = sym (append-nil before) ∙ is; stands = stand; split = sym (append-nil ts) }) tt in
      ok_no_err (p ts) a [] left read e
  no_rest text ts left are e a before (x ∷ after) stand is = not_all before ts (front_inner before after (inner a) x (is ∙ whole a) (kept a)) stand (lasts _ text ts are)

  fault_of : (text : List ℕ) (ts left : List Token) → AreTokensOf text ts → p ts ≡ Err left → Part (λ a pieces. pieces ≡ spelled a) ts left → (left ≡ [] → ⊥) → HasFaultAt spelled text (line_of left)
  fault_of text ts [] are e part some = absurd (some refl)
  fault_of text ts (token ∷ behind) are e part some =
      record {
        before = part.front;
        token = token;
        behind = behind;
        are = subst (AreTokensOf text) part.split are;
        begins = record { tree = part.value; front = part.before; rest = part.after; whole = sym part.spelled; stand = part.stands };
        stops = λ b.
            let past : length (left_of (p ts)) ≤ length behind =
            (right ts).reaches behind (record { value = b.tree; before = b.front; after = b.rest; front = part.front ++ token ∷ []; spelled = sym b.whole; stands = b.stand; split = part.split ∙ sym (append_assoc part.front (token ∷ []) behind) })
            in
            let far : suc (length behind) ≤ length behind = subst (λ o. length (left_of o) ≤ length behind) e past in
            absurd (omega (arith, far));
        in_line = refl;
      }

  left_some : (text : List ℕ) (ts left : List Token) → AreTokensOf text ts → p ts ≡ Err left → Part (λ a pieces. pieces ≡ spelled a) ts left → left ≡ [] → ⊥
  left_some text ts left are e part none =
      let same : ts ≡ part.front = part.split ∙ ap (λ left. part.front ++ left) none ∙ append-nil part.front in
      no_rest text ts left are e part.value part.before part.after (subst (Stand part.before) (sym same) part.stands) part.spelled

  -- what was refused is where the text has its fault
  pub fault_read : (text : List ℕ) (ts left : List Token) → AreTokensOf text ts → p ts ≡ Err left → HasFaultAt spelled text (line_of left)
  fault_read text ts left are e =
      let part : Part (λ a pieces. pieces ≡ spelled a) ts left = subst (Sound (λ a pieces. pieces ≡ spelled a) ts) e (right ts).sound in
      fault_of text ts left are e part (left_some text ts left are e part)

-- ---- faults are of one place, however trees are spelled

module _ {A : Type 0} {spelled : A → List Piece} where
  -- a tree that begins with tokens begins with those in front of them
  begins_front : (f g : List Token) → Begins spelled (f ++ g) → Begins spelled f
  begins_front f g b =
      let c = cut_places b.front f g b.stand in
      record { tree = b.tree; front = c.front; rest = c.back ++ b.rest; whole = b.whole ∙ ap (λ front. front ++ b.rest) c.joined ∙ append_assoc c.front c.back b.rest; stand = c.stands_front }

  -- nothing begins with the tokens up to a fault and more
  stops_before : {text : List ℕ} {line : ℕ} (f : HasFaultAt spelled text line) (others tokens : List Token) → tokens ≡ f.before ++ f.token ∷ others → Begins spelled tokens → ⊥
  stops_before f others tokens e b =
      f.stops (begins_front (f.before ++ f.token ∷ []) others (subst (Begins spelled) (e ∙ sym (append_assoc f.before (f.token ∷ []) others)) b))

  -- a text with a fault is that of no tree
  fault_no_tree : TextHasOneTokenList → (text : List ℕ) (line : ℕ) → HasFaultAt spelled text line → (a : A) → IsTextOf spelled text a → ⊥
  fault_no_tree law text line f a t =
      stops_before f f.behind t.tokens (law text t.tokens (f.before ++ f.token ∷ f.behind) t.are f.are)
      (record { tree = a; front = spelled a; rest = []; whole = sym (append-nil (spelled a)); stand = t.stand })

  -- two faults of a text are at one token
  same_fault : {text : List ℕ} {line other : ℕ} (f : HasFaultAt spelled text line) (g : HasFaultAt spelled text other) → Cuts f.before (f.token ∷ f.behind) g.before (g.token ∷ g.behind) → g.token ≡ f.token
  same_fault f g (cut.inside [] d e) = sym (first_same f.token g.token f.behind g.behind e)
  same_fault f g (cut.inside (x ∷ c) d e) = absurd (stops_before f c g.before (d ∙ ap (λ x. f.before ++ x ∷ c) (sym (first_same f.token x f.behind (c ++ g.token ∷ g.behind) e))) g.begins)
  same_fault f g (cut.behind x c d e) = absurd (stops_before g c f.before (d ∙ ap (λ x. g.before ++ x ∷ c) (sym (first_same g.token x g.behind (c ++ f.token ∷ f.behind) e))) f.begins)

  -- a text with a fault is that of no tree, and all its faults are in one line
  pub fault_is_one : TextHasOneTokenList → (text : List ℕ) (line : ℕ) → HasFaultAt spelled text line → ((a : A) → IsTextOf spelled text a → ⊥) × ((other : ℕ) → HasFaultAt spelled text other → other ≡ line)
  fault_is_one law text line f = (
    fault_no_tree law text line f,
    λ other g.
        let same : f.before ++ f.token ∷ f.behind ≡ g.before ++ g.token ∷ g.behind = law text (f.before ++ f.token ∷ f.behind) (g.before ++ g.token ∷ g.behind) f.are g.are in
        g.in_line ∙ ap (λ (t : Token). t.line) (same_fault f g (cuts f.before (f.token ∷ f.behind) g.before (g.token ∷ g.behind) same)) ∙ sym f.in_line,
  )
