-- One of two readers.
use Rattle.std.proofs.Common.{Bool, Err, List, Ok, [], ap, arith, cond, false, inl, inr, length, refl, subst, sym, true, ℕ, ◌++◌, ◌∙◌, ◌∷◌, ◌≡◌, ◌≤◌, ◌⊎◌}
use Rattle.program_tokens.specs.declared.token.Token.{Token}
use Rattle.program_tokens.specs.steps.Parsers.{Outcome}
use Rattle.program_tokens.specs.Pieces.{Piece, Stand}
use Rattle.program_tokens.proofs.Right.{Part, RightAt, Sound, Spells, Stops, left_of, never_grows, sound_respelled}
use Rattle.program_tokens.proofs.Sequences.{Follows, begun_stops, whole_stops}

-- one or the other
abbrev pub Either : {A : Type 0} → Spells A → Spells A → Spells A
Either one other a pieces = one a pieces ⊎ other a pieces

-- the test does not hold there
abbrev pub Not : (List Token → Bool) → Stops
Not test ts = test ts ≡ false

-- what the chosen reader came to is sound
either_sound : {A : Type 0} (one other : Spells A) (ts : List Token) (test : Bool) (o q : Outcome A) → Sound one ts o → Sound other ts q → Sound (Either one other) ts (cond test o q)
either_sound one other ts true o q s t = sound_respelled one (Either one other) ts o (λ a pieces x. inl x) s
either_sound one other ts false o q s t = sound_respelled other (Either one other) ts q (λ a pieces x. inr x) t

-- the first reader came to this, and if it was not asked, it refused
refused_or_read : {A : Type 0} (ts left : List Token) (o q r : Outcome A) (test : Bool) → (test ≡ false → o ≡ Err left) → o ≡ r → (Err left ≡ r → cond test o q ≡ r) → cond test o q ≡ r
refused_or_read ts left o q r true guard e f = e
refused_or_read ts left o q r false guard e f = f (sym (guard refl) ∙ e)

-- a refusal is no success
not_both : {A : Type 0} (left : List Token) (p : A × List Token) (T : Type 0) → Err left ≡ Ok p → T
not_both left p T e = absurd cc

-- the first reader got past this, and if it was not asked, the other takes nothing back
first_reaches : {A : Type 0} (ts : List Token) (o q : Outcome A) (n : ℕ) (test : Bool) → (test ≡ false → o ≡ Err ts) → length (left_of o) ≤ n → length (left_of q) ≤ length ts → length (left_of (cond test o q)) ≤ n
first_reaches ts o q n true guard a b = a
first_reaches ts o q n false guard a b = let c : length ts ≤ n = subst (λ o. length (left_of o) ≤ n) (guard refl) a in omega arith

-- nothing of what is spelled has come, or the first of it stops the other
data Begun {A : Type 0} (spells : Spells A) (stopped : Stops) (ts others : List Token) : Type 0 where
  not_yet : ts ≡ others → Begun spells stopped ts others
  stopped_by : stopped ts → Begun spells stopped ts others

-- nothing of what is spelled has come, or what has come stops the other
begun : {A : Type 0} (spells : Spells A) (stops stopped : Stops) (ts others : List Token) → Follows spells stops stopped
    → (a : A) (before after : List Piece) (front : List Token) → spells a (before ++ after) → Stand before front → ts ≡ front ++ others → Begun spells stopped ts others
begun spells stops stopped ts others f a [] after [] s st e = not_yet e
begun spells stops stopped ts others f a [] after (token ∷ front) s st e = absurd st
begun spells stops stopped ts others f a (piece ∷ before) after front s st e = stopped_by (begun_stops spells stops stopped a piece before after front ts others f s st e)

module _ {A : Type 0} (one other : Spells A) (stops : Stops) (test : List Token → Bool) (ts : List Token) (o q : Outcome A)
    (guard : test ts ≡ false → o ≡ Err ts) (r : RightAt one stops ts o) (t : RightAt other stops ts q) (follows : Follows other stops (Not test)) where
  -- the outcome is sound
  all_sound : Sound (Either one other) ts (cond (test ts) o q)
  all_sound = either_sound one other ts (test ts) o q r.sound t.sound

  -- what is spelled is read
  all_complete : (a : A) (rest : List Token) (pieces : List Piece) (front : List Token) → one a pieces ⊎ other a pieces → Stand pieces front → ts ≡ front ++ rest → stops rest → cond (test ts) o q ≡ Ok (a, rest)
  all_complete a rest pieces front (inl s) st e stop =
      refused_or_read ts ts o q (Ok (a, rest)) (test ts) guard (r.complete a rest (record { pieces = pieces; front = front; spelled = s; stands = st; split = e }) stop) (not_both ts (a, rest) _)
  all_complete a rest pieces front (inr s) st e stop =
      ap (λ b. cond b o q) (whole_stops other stops (Not test) a pieces front ts rest follows s st e stop) ∙ t.complete a rest (record { pieces = pieces; front = front; spelled = s; stands = st; split = e }) stop

  -- what the second begins is passed
  other_reaches : (others : List Token) → Part other ts others → Begun other (Not test) ts others → length (left_of (cond (test ts) o q)) ≤ length others
  other_reaches others w (not_yet e) = subst (λ n. length (left_of (cond (test ts) o q)) ≤ n) (ap length e) (never_grows (Either one other) ts (cond (test ts) o q) all_sound)
  other_reaches others w (stopped_by e) = subst (λ b. length (left_of (cond b o q)) ≤ length others) (sym e) (t.reaches others w)

  -- whatever is begun is passed
  all_reaches : (others : List Token) (a : A) (before after : List Piece) (front : List Token) → one a (before ++ after) ⊎ other a (before ++ after) → Stand before front → ts ≡ front ++ others
      → length (left_of (cond (test ts) o q)) ≤ length others
  all_reaches others a before after front (inl s) st e =
      first_reaches ts o q (length others) (test ts) guard (r.reaches others (record { value = a; before = before; after = after; front = front; spelled = s; stands = st; split = e })) (never_grows other ts q t.sound)
  all_reaches others a before after front (inr s) st e =
      other_reaches others (record { value = a; before = before; after = after; front = front; spelled = s; stands = st; split = e }) (begun other stops (Not test) ts others follows a before after front s st e)

  -- one of two readers, by a test that the first needs and that nothing of the second meets
  pub choose_at : RightAt (Either one other) stops ts (cond (test ts) o q)
  choose_at = record {
    sound = all_sound;
    complete = λ a rest w stop. all_complete a rest w.pieces w.front w.spelled w.stands w.split stop;
    reaches = λ others w. all_reaches others w.value w.before w.after w.front w.spelled w.stands w.split;
  }
