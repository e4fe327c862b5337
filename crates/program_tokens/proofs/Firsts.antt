-- What comes first where something is spelled.
use Rattle.std.proofs.Common.{List, Ok, [], ap, arith, inl, inr, length, refl, subst, sym, ◌++◌, ◌∷◌, ◌≡◌, ◌≤◌, ◌⊎◌}
use Rattle.program_tokens.specs.declared.token.Token.{Token}
use Rattle.program_tokens.specs.steps.Parsers.{Outcome, refuse}
use Rattle.program_tokens.specs.Pieces.{Fits, Piece, Stand}
use Rattle.program_tokens.proofs.Right.{Exactly, Right, RightAt, Spelled, Spells, Stops, left_of, never_grows, sound_respelled}
use Rattle.program_tokens.proofs.Sequences.{Follows}
use Rattle.program_tokens.proofs.Choices.{Either}

-- there is a first place, and this holds of it
abbrev pub Heads : (Piece → Type 0) → List Piece → Type 0
Heads P [] = ⊥
Heads P (piece ∷ pieces) = P piece

-- whatever is spelled has a first place of which this holds
abbrev pub Begins : {A : Type 0} → (Piece → Type 0) → Spells A → Type 0
Begins {A} P spells = (a : A) (pieces : List Piece) → spells a pieces → Heads P pieces

-- what comes first comes first of more
pub heads_append : (P : Piece → Type 0) (some more : List Piece) → Heads P some → Heads P (some ++ more)
heads_append P [] more h = absurd h
heads_append P (piece ∷ some) more h = h

-- what has a first place is not empty
pub heads_some : {A : Type 0} (P : Piece → Type 0) (leaf : A → List Piece) → ((a : A) → Heads P (leaf a)) → (a : A) → Exactly leaf a [] → ⊥
heads_some P leaf h a e = subst (Heads P) (sym e) (h a)

-- what holds of the first place of either holds of both together
pub either_begins : {A : Type 0} {one other : Spells A} (P : Piece → Type 0) → Begins P one → Begins P other → Begins P (Either one other)
either_begins P f g a pieces (inl s) = f a pieces s
either_begins P f g a pieces (inr s) = g a pieces s

-- ---- what stops another reader

-- a token that fits the place stops the other reader
abbrev pub Stopping : Stops → Piece → Type 0
Stopping stopped piece = (token : Token) (tokens : List Token) → Fits piece token → stopped (token ∷ tokens)

-- what begins with a place that stops another reader stops it
pub begins_follows : {A : Type 0} (spells : Spells A) (stops stopped : Stops) → Begins (Stopping stopped) spells → Follows spells stops stopped
begins_follows spells stops stopped b = record {
  some = λ a piece pieces token tokens s fits. b a (piece ∷ pieces) s token tokens fits;
  none = λ a rest s stop. absurd (b a [] s);
}

-- anything may follow
abbrev pub Free : Stops
Free ts = Unit {0}

-- a reader that anything may follow is stopped by anything
pub free_follows : {A : Type 0} (spells : Spells A) (stops : Stops) → Follows spells stops Free
free_follows spells stops = record { some = λ a piece pieces token tokens s fits. tt; none = λ a rest s stop. tt }

-- ---- what no token can begin

-- no token fits the place
abbrev pub Unfilled : Piece → Type 0
Unfilled piece = (token : Token) → Fits piece token → ⊥

-- what no token can begin may be said to be spelled too
pub widened : {A : Type 0} {s t : Spells A} {stops : Stops} {ts : List Token} {o : Outcome A}
    → ((a : A) (pieces : List Piece) → s a pieces → t a pieces) → ((a : A) (pieces : List Piece) → t a pieces → s a pieces ⊎ Heads Unfilled pieces) → RightAt s stops ts o → RightAt t stops ts o
widened {s = s} {t = t} {stops = stops} {ts = ts} {o = o} f g r = record {
  sound = sound_respelled s t ts o f r.sound;
  complete = λ a rest w stop. whole a rest w.pieces w.front (g a w.pieces w.spelled) w.stands w.split stop;
  reaches = λ others w. some others w.value w.before w.after w.front (g w.value (w.before ++ w.after) w.spelled) w.stands w.split;
}
  where
    whole : (a : _) (rest : List Token) (pieces : List Piece) (front : List Token) → s a pieces ⊎ Heads Unfilled pieces → Stand pieces front → ts ≡ front ++ rest → stops rest → o ≡ Ok (a, rest)
    whole a rest pieces front (inl x) st e stop = r.complete a rest (record { pieces = pieces; front = front; spelled = x; stands = st; split = e }) stop
    whole a rest [] front (inr x) st e stop = absurd x
    whole a rest (piece ∷ pieces) [] (inr x) st e stop = absurd st
    whole a rest (piece ∷ pieces) (token ∷ front) (inr x) st e stop = absurd (x token st.0)

    some : (others : List Token) (a : _) (before after : List Piece) (front : List Token) → s a (before ++ after) ⊎ Heads Unfilled (before ++ after) → Stand before front → ts ≡ front ++ others → length (left_of o) ≤ length others
    some others a before after front (inl x) st e = r.reaches others (record { value = a; before = before; after = after; front = front; spelled = x; stands = st; split = e })
    some others a [] after [] (inr x) st e = subst (λ n. length (left_of o) ≤ n) (ap length e) (never_grows s ts o r.sound)
    some others a [] after (token ∷ front) (inr x) st e = absurd st
    some others a (piece ∷ before) after [] (inr x) st e = absurd st
    some others a (piece ∷ before) after (token ∷ front) (inr x) st e = absurd (x token st.0)

-- a reader that refuses, where no token can begin what is spelled
pub refuse_right : {A : Type 0} (spells : Spells A) (stops : Stops) → Spelled spells → Begins Unfilled spells → Right spells stops refuse
refuse_right spells stops some never ts = record {
  sound = record { value = some.value; before = []; after = some.pieces; front = []; spelled = some.spelled; stands = tt; split = refl };
  complete = λ a rest w stop. absurd (no_whole a w.pieces w.front w.spelled w.stands);
  reaches = λ others w. as_many w.value w.before w.after w.front others w.spelled w.stands w.split;
}
  where
    no_whole : (a : _) (pieces : List Piece) (front : List Token) → spells a pieces → Stand pieces front → ⊥
    no_whole a [] front s st = never a [] s
    no_whole a (piece ∷ pieces) [] s st = st
    no_whole a (piece ∷ pieces) (token ∷ front) s st = never a (piece ∷ pieces) s token st.0

    as_many : (a : _) (before after : List Piece) (front others : List Token) → spells a (before ++ after) → Stand before front → ts ≡ front ++ others → length ts ≤ length others
    as_many a [] after [] others s st f = omega (arith, ap length f)
    as_many a [] after (token ∷ front) others s st f = absurd st
    as_many a (piece ∷ before) after [] others s st f = absurd st
    as_many a (piece ∷ before) after (token ∷ front) others s st f = absurd (never a (piece ∷ before ++ after) s token st.0)
