-- Readers of what is made of parts and spelled as these, one after another.
use Rattle.std.proofs.Common.{List, Ok, [], ap, append-nil, ap₂, arith, inl, inr, length, refl, subst, sym, ℕ, ◌++◌, ◌<◌, ◌∙◌, ◌∷◌, ◌≡◌, ◌≤◌, ◌⊎◌}
use Rattle.std.proofs.Math.Logic.{⊎_elim}
use Rattle.program_tokens.specs.declared.token.Token.{Token}
use Rattle.program_tokens.specs.steps.Parsers.{Parser, expect, pure, ◌>>=◌, ◌>>◌}
use Rattle.program_tokens.specs.Pieces.{Piece, Stand, plain}
use Rattle.program_tokens.proofs.Right.{Exactly, Right, RightAt, Spelled, Stops, read_shorter, respelled, right_spelled}
use Rattle.program_tokens.proofs.Sequences.{Follows, Then, then_at}
use Rattle.program_tokens.proofs.Choices.{Either}
use Rattle.program_tokens.proofs.Firsts.{Begins, Free, Heads, free_follows}
use Rattle.program_tokens.proofs.OneToken.{expect_right}

-- made of parts, and spelled as these
pub record Made {C B : Type 0} (make : C → B) (leaf : C → List Piece) (b : B) (pieces : List Piece) : Type 0 where
  pub parts : C
  pub made : b ≡ make parts
  pub as_parts : pieces ≡ leaf parts

-- what holds of the first place of the parts holds of what is made of them
pub made_begins : {C B : Type 0} {make : C → B} {leaf : C → List Piece} (P : Piece → Type 0) → ((c : C) → Heads P (leaf c)) → Begins P (Made make leaf)
made_begins P h b pieces m = subst (Heads P) (sym m.as_parts) (h m.parts)

-- a reader of nothing, where the parts are all there
pub pure_made : {C B : Type 0} (make : C → B) (leaf : C → List Piece) (stops : Stops) (c : C) → ((other : C) → make other ≡ make c) → ((other : C) → leaf other ≡ []) → Right (Made make leaf) stops (pure (make c))
pure_made make leaf stops c same none ts = record {
  sound = record { pieces = []; front = []; spelled = record { parts = c; made = refl; as_parts = sym (none c) }; stands = tt; split = refl };
  complete = λ b rest w stop. ap₂ (λ b ts. Ok (b, ts)) (sym (w.spelled.made ∙ same w.spelled.parts)) (w.split ∙ ap (λ f. f ++ rest) (no_tokens w.pieces w.front (w.spelled.as_parts ∙ none w.spelled.parts) w.stands));
  reaches = λ others w. as_many w.before w.after w.front others (w.spelled.as_parts ∙ none w.spelled.parts) w.stands w.split;
}
  where
    no_tokens : (pieces : List Piece) (front : List Token) → pieces ≡ [] → Stand pieces front → front ≡ []
    no_tokens [] [] e st = refl
    no_tokens [] (token ∷ front) e st = absurd st
    no_tokens (piece ∷ pieces) front e st = absurd cc

    as_many : (before after : List Piece) (front others : List Token) → before ++ after ≡ [] → Stand before front → ts ≡ front ++ others → length ts ≤ length others
    as_many [] after [] others e st f = omega (arith, ap length f)
    as_many [] after (token ∷ front) others e st f = absurd st
    as_many (piece ∷ before) after front others e st f = absurd cc

-- ---- one part, and then the others

-- one part, and then the others
pub part_at : {A C B : Type 0} (make : A × C → B) (leaf : A → List Piece) (others : C → List Piece) (stops_one stops : Stops) (ts : List Token) (p : Parser A) (f : A → Parser B)
    → RightAt (Exactly leaf) stops_one ts (p ts)
    → ((a : A) (mid : List Token) → p ts ≡ Ok (a, mid) → RightAt (Made (λ c. make (a, c)) others) stops mid (f a mid))
    → ((a : A) → Spelled (Made (λ c. make (a, c)) others)) → ((a : A) → Follows (Made (λ c. make (a, c)) others) stops stops_one)
    → RightAt (Made make (λ c. leaf c.0 ++ others c.1)) stops ts ((p >>= f) ts)
part_at make leaf others stops_one stops ts p f r g some follows =
    respelled to from (then_at (Exactly leaf) (λ a. Made (λ c. make (a, c)) others) stops_one stops ts (p ts) f r g some follows)
  where
    to : (b : _) (pieces : List Piece) → Then (Exactly leaf) (λ a. Made (λ c. make (a, c)) others) b pieces → Made make (λ c. leaf c.0 ++ others c.1) b pieces
    to b pieces t = record { parts = (t.a, t.goes_on.parts); made = t.goes_on.made; as_parts = t.joined ∙ ap₂ ◌++◌ t.begins t.goes_on.as_parts }

    from : (b : _) (pieces : List Piece) → Made make (λ c. leaf c.0 ++ others c.1) b pieces → Then (Exactly leaf) (λ a. Made (λ c. make (a, c)) others) b pieces
    from b pieces m = record {
      a = m.parts.0;
      front = leaf m.parts.0;
      back = others m.parts.1;
      begins = refl;
      goes_on = record { parts = m.parts.1; made = m.made; as_parts = refl };
      joined = m.as_parts;
    }

-- one part, and then the others, where these stop it
pub part : {A C B : Type 0} {make : A × C → B} {leaf : A → List Piece} {others : C → List Piece} {stops_one stops : Stops} {p : Parser A} {f : A → Parser B}
    → Right (Exactly leaf) stops_one p → ((a : A) → Right (Made (λ c. make (a, c)) others) stops (f a)) → ((a : A) → Follows (Made (λ c. make (a, c)) others) stops stops_one)
    → Right (Made make (λ c. leaf c.0 ++ others c.1)) stops (p >>= f)
part {make = make} {leaf = leaf} {others = others} {stops_one = stops_one} {stops = stops} {p = p} {f = f} r g follows ts =
    part_at make leaf others stops_one stops ts p f (r ts) (λ a mid e. g a mid) (λ a. right_spelled (g a)) follows

-- one part, whatever follows it
pub free_part : {A C B : Type 0} {make : A × C → B} {leaf : A → List Piece} {others : C → List Piece} {stops : Stops} {p : Parser A} {f : A → Parser B}
    → Right (Exactly leaf) Free p → ((a : A) → Right (Made (λ c. make (a, c)) others) stops (f a)) → Right (Made make (λ c. leaf c.0 ++ others c.1)) stops (p >>= f)
free_part {make = make} {others = others} {stops = stops} r g = part r g (λ a. free_follows (Made (λ c. make (a, c)) others) stops)

-- a part made of parts, and then the others
pub made_part : {C₁ A C B : Type 0} (mk : C₁ → A) (make : A × C → B) (leaf : C₁ → List Piece) (others : C → List Piece) (stops_one stops : Stops) (p : Parser A) (f : A → Parser B)
    → Right (Made mk leaf) stops_one p → ((a : A) → Right (Made (λ c. make (a, c)) others) stops (f a)) → ((a : A) → Follows (Made (λ c. make (a, c)) others) stops stops_one)
    → Right (Made {C = C₁ × C} (λ c. make (mk c.0, c.1)) (λ c. leaf c.0 ++ others c.1)) stops (p >>= f)
made_part mk make leaf others stops_one stops p f r g follows ts =
    respelled to from (then_at (Made mk leaf) (λ a. Made (λ c. make (a, c)) others) stops_one stops ts (p ts) f (r ts) (λ a mid e. g a mid) (λ a. right_spelled (g a)) follows)
  where
    to : (b : _) (pieces : List Piece) → Then (Made mk leaf) (λ a. Made (λ c. make (a, c)) others) b pieces → Made {C = _ × _} (λ c. make (mk c.0, c.1)) (λ c. leaf c.0 ++ others c.1) b pieces
    to b pieces t = record {
      parts = (t.begins.parts, t.goes_on.parts);
      made = t.goes_on.made ∙ ap (λ a. make (a, t.goes_on.parts)) t.begins.made;
      as_parts = t.joined ∙ ap₂ ◌++◌ t.begins.as_parts t.goes_on.as_parts;
    }

    from : (b : _) (pieces : List Piece) → Made {C = _ × _} (λ c. make (mk c.0, c.1)) (λ c. leaf c.0 ++ others c.1) b pieces → Then (Made mk leaf) (λ a. Made (λ c. make (a, c)) others) b pieces
    from b pieces m = record {
      a = mk m.parts.0;
      front = leaf m.parts.0;
      back = others m.parts.1;
      begins = record { parts = m.parts.0; made = refl; as_parts = refl };
      goes_on = record { parts = m.parts.1; made = m.made; as_parts = refl };
      joined = m.as_parts;
    }

-- ---- a word, and then the parts

-- a word, and then the parts, where these are read right behind it
pub word_at : {C B : Type 0} (word : List ℕ) (make : C → B) (leaf : C → List Piece) (stops : Stops) (ts : List Token) (p : Parser B)
    → ((mid : List Token) → length mid < length ts → RightAt (Made make leaf) stops mid (p mid)) → Spelled (Made make leaf)
    → RightAt (Made make (λ c. plain word ∷ leaf c)) stops ts ((expect word >> p) ts)
word_at word make leaf stops ts p r some =
    let w = expect_right word Free ts in
    respelled to from (then_at (Exactly (λ _. plain word ∷ [])) (λ _. Made make leaf) Free stops ts (expect word ts) (λ _. p) w
    (λ a mid e. r mid (read_shorter (Exactly (λ _. plain word ∷ [])) ts (expect word ts) a mid w.sound (λ _ e. cc) e)) (λ _. some) (λ _. free_follows (Made make leaf) stops))
  where
    to : (b : _) (pieces : List Piece) → Then {A = Unit {0}} (Exactly (λ _. plain word ∷ [])) (λ _. Made make leaf) b pieces → Made make (λ c. plain word ∷ leaf c) b pieces
    to b pieces t = record { parts = t.goes_on.parts; made = t.goes_on.made; as_parts = t.joined ∙ ap₂ ◌++◌ t.begins t.goes_on.as_parts }

    from : (b : _) (pieces : List Piece) → Made make (λ c. plain word ∷ leaf c) b pieces → Then {A = Unit {0}} (Exactly (λ _. plain word ∷ [])) (λ _. Made make leaf) b pieces
    from b pieces m = record {
      a = tt;
      front = plain word ∷ [];
      back = leaf m.parts;
      begins = refl;
      goes_on = record { parts = m.parts; made = m.made; as_parts = refl };
      joined = m.as_parts;
    }

-- a word, and then the parts
pub word_then : {C B : Type 0} (word : List ℕ) {make : C → B} {leaf : C → List Piece} {stops : Stops} {p : Parser B} → Right (Made make leaf) stops p → Right (Made make (λ c. plain word ∷ leaf c)) stops (expect word >> p)
word_then word {make = make} {leaf = leaf} {stops = stops} {p = p} r ts = word_at word make leaf stops ts p (λ mid _. r mid) (right_spelled r)

-- ---- what is made of the parts

-- what is spelled just so is made of itself
pub as_made : {A : Type 0} {leaf : A → List Piece} {stops : Stops} {p : Parser A} → Right (Exactly leaf) stops p → Right (Made (λ a. a) leaf) stops p
as_made {leaf = leaf} r ts = respelled (λ a pieces e. record { parts = a; made = refl; as_parts = e }) (λ a pieces m. m.as_parts ∙ ap leaf (sym m.made)) (r ts)

-- where each value is made of parts, it is spelled as these
pub exactly : {C B : Type 0} {make : C → B} {leaf : C → List Piece} {stops : Stops} {p : Parser B} (pieces_of : B → List Piece) (parts : B → C)
    → ((b : B) → b ≡ make (parts b)) → ((c : C) → leaf c ≡ pieces_of (make c)) → Right (Made make leaf) stops p → Right (Exactly pieces_of) stops p
exactly pieces_of parts made same r ts = respelled
    (λ b pieces m. m.as_parts ∙ same m.parts ∙ ap pieces_of (sym m.made))
    (λ b pieces e. record { parts = parts b; made = made b; as_parts = e ∙ ap pieces_of (made b) ∙ sym (same (parts b)) })
    (r ts)

-- made of other parts
pub remade : {C D B : Type 0} {make : C → B} {leaf : C → List Piece} {stops : Stops} {p : Parser B} (make' : D → B) (leaf' : D → List Piece) (f : C → D) (g : D → C)
    → ((c : C) → make c ≡ make' (f c)) → ((c : C) → leaf c ≡ leaf' (f c)) → ((d : D) → make' d ≡ make (g d)) → ((d : D) → leaf' d ≡ leaf (g d)) → Right (Made make leaf) stops p → Right (Made make' leaf') stops p
remade make' leaf' f g a b c d r ts = respelled
    (λ x pieces m. record { parts = f m.parts; made = m.made ∙ a m.parts; as_parts = m.as_parts ∙ b m.parts })
    (λ x pieces m. record { parts = g m.parts; made = m.made ∙ c m.parts; as_parts = m.as_parts ∙ d m.parts })
    (r ts)

-- where nothing is spelled, what may follow it follows
pub nothing_follows : {C B : Type 0} (make : C → B) (stops stopped : Stops) → ((rest : List Token) → stops rest → stopped rest) → Follows (Made make (λ _. [])) stops stopped
nothing_follows make stops stopped f = record { some = λ b piece pieces token tokens m fits. absurd (let e = m.as_parts in cc); none = λ b rest m stop. f rest stop }

-- what is made of parts, made into something else
pub made_last : {C A B : Type 0} {mk : C → A} {leaf : C → List Piece} {stops : Stops} {p : Parser A} (make : A → B) → Right (Made mk leaf) stops p
    → Right (Made (λ c. make (mk c)) leaf) stops (p >>= λ a. pure (make a))
made_last {C = C} {mk = mk} {leaf = leaf} {stops = stops} {p = p} make r =
    remade (λ c. make (mk c)) leaf (λ (c : C × Unit {0}). c.0) (λ c. (c, tt)) (λ c. refl) (λ c. append-nil (leaf c.0)) (λ c. refl) (λ c. sym (append-nil (leaf c)))
    (made_part mk (λ (c : _ × Unit {0}). make c.0) leaf (λ _. []) stops stops p (λ a. pure (make a)) r
    (λ a. pure_made {C = Unit {0}} (λ _. make a) (λ _. []) stops tt (λ _. refl) (λ _. refl))
    (λ a. nothing_follows (λ _. make a) stops stops (λ rest stop. stop)))

-- the last part
pub last_part : {A B : Type 0} (make : A → B) {leaf : A → List Piece} {stops : Stops} {p : Parser A} → Right (Exactly leaf) stops p → Right (Made make leaf) stops (p >>= λ a. pure (make a))
last_part make r = made_last make (as_made r)

-- the last word, behind which all the parts are there
pub last_word : {B : Type 0} (word : List ℕ) (stops : Stops) (b : B) → Right (Made {C = Unit {0}} (λ _. b) (λ _. plain word ∷ [])) stops (expect word >> pure b)
last_word word stops b = word_then word {leaf = λ _. []} (pure_made {C = Unit {0}} (λ _. b) (λ _. []) stops tt (λ _. refl) (λ _. refl))

-- ---- of the one parts or of the others

-- what is made of the one parts or of the others is made of one of both
pub either_made : {C D B : Type 0} {make : C → B} {leaf : C → List Piece} {make' : D → B} {leaf' : D → List Piece} {stops : Stops} {p : Parser B}
    → Right (Either (Made make leaf) (Made make' leaf')) stops p → Right (Made (⊎_elim make make') (⊎_elim leaf leaf')) stops p
either_made {make = make} {leaf = leaf} {make' = make'} {leaf' = leaf'} r ts = respelled to from (r ts)
  where
    to : (b : _) (pieces : List Piece) → Either (Made make leaf) (Made make' leaf') b pieces → Made (⊎_elim make make') (⊎_elim leaf leaf') b pieces
    to b pieces (inl m) = record { parts = inl m.parts; made = m.made; as_parts = m.as_parts }
    to b pieces (inr m) = record { parts = inr m.parts; made = m.made; as_parts = m.as_parts }

    of : (b : _) (pieces : List Piece) (c : _ ⊎ _) → b ≡ ⊎_elim make make' c → pieces ≡ ⊎_elim leaf leaf' c → Either (Made make leaf) (Made make' leaf') b pieces
    of b pieces (inl c) e f = inl (record { parts = c; made = e; as_parts = f })
    of b pieces (inr d) e f = inr (record { parts = d; made = e; as_parts = f })

    from : (b : _) (pieces : List Piece) → Made (⊎_elim make make') (⊎_elim leaf leaf') b pieces → Either (Made make leaf) (Made make' leaf') b pieces
    from b pieces m = of b pieces m.parts m.made m.as_parts
