-- One reader after another.
use Rattle.std.proofs.Common.{Err, List, Ok, [], ap, append_assoc, ap₂, arith, le_trans, length, refl, subst, sym, ◌++◌, ◌∙◌, ◌∷◌, ◌≡◌, ◌≤◌}
use Rattle.program_tokens.specs.declared.token.Token.{Token}
use Rattle.program_tokens.specs.steps.Parsers.{Outcome, Parser, and_then}
use Rattle.program_tokens.specs.Pieces.{Fits, Piece, Stand}
use Rattle.program_tokens.proofs.Right.{Part, RightAt, Sound, Spelled, Spells, Stops, Whole, left_of, never_grows}

-- ---- places and tokens

-- what stands at places one after another stands one after another
pub stand_join : (p q : List Piece) (f g : List Token) → Stand p f → Stand q g → Stand (p ++ q) (f ++ g)
stand_join [] q [] g s t = t
stand_join [] q (token ∷ f) g s t = absurd s
stand_join (piece ∷ p) q [] g s t = absurd s
stand_join (piece ∷ p) q (token ∷ f) g s t = (s.0, stand_join p q f g s.1 t)

-- tokens cut where the places are cut
pub record CutTokens (p q : List Piece) (f : List Token) : Type 0 where
  pub front : List Token
  pub back : List Token
  pub stands_front : Stand p front
  pub stands_back : Stand q back
  pub joined : f ≡ front ++ back

-- tokens that stand at places can be cut where these are cut
pub cut_tokens : (p q : List Piece) (f : List Token) → Stand (p ++ q) f → CutTokens p q f
cut_tokens [] q f s = record { front = []; back = f; stands_front = tt; stands_back = s; joined = refl }
cut_tokens (piece ∷ p) q [] s = absurd s
cut_tokens (piece ∷ p) q (token ∷ f) s =
    let c = cut_tokens p q f s.1 in
    record { front = token ∷ c.front; back = c.back; stands_front = (s.0, c.stands_front); stands_back = c.stands_back; joined = ap (◌∷◌ token) c.joined }

-- places cut where the tokens are cut
pub record CutPlaces (p : List Piece) (f g : List Token) : Type 0 where
  pub front : List Piece
  pub back : List Piece
  pub stands_front : Stand front f
  pub stands_back : Stand back g
  pub joined : p ≡ front ++ back

-- places at which tokens stand can be cut where these are cut
pub cut_places : (p : List Piece) (f g : List Token) → Stand p (f ++ g) → CutPlaces p f g
cut_places p [] g s = record { front = []; back = p; stands_front = tt; stands_back = s; joined = refl }
cut_places [] (token ∷ f) g s = absurd s
cut_places (piece ∷ p) (token ∷ f) g s =
    let c = cut_places p f g s.1 in
    record { front = piece ∷ c.front; back = c.back; stands_front = (s.0, c.stands_front); stands_back = c.stands_back; joined = ap (◌∷◌ piece) c.joined }

-- where two cuts of the same list lie
pub data Cuts {A : Type 0} (before after p q : List A) : Type 0 where
  inside : (c : List A) → p ≡ before ++ c → after ≡ c ++ q → Cuts before after p q
  behind : (x : A) (c : List A) → before ≡ p ++ x ∷ c → q ≡ x ∷ c ++ after → Cuts before after p q

-- the first items of the same lists are the same
pub first_same : {A : Type 0} (x y : A) (xs ys : List A) → x ∷ xs ≡ y ∷ ys → x ≡ y
first_same x y xs ys e = cc

-- the other items of the same lists are the same
pub later_same : {A : Type 0} (x y : A) (xs ys : List A) → x ∷ xs ≡ y ∷ ys → xs ≡ ys
later_same x y xs ys e = cc

-- two cuts with the same item more in front
one_more : {A : Type 0} (x y : A) (before after p q : List A) → x ≡ y → Cuts before after p q → Cuts (x ∷ before) after (y ∷ p) q
one_more x y before after p q e (inside c f g) = inside c (ap₂ ◌∷◌ (sym e) f) g
one_more x y before after p q e (behind z c f g) = behind z c (ap₂ ◌∷◌ e f) g

-- of two cuts of the same list one lies in what the other has in front
pub cuts : {A : Type 0} (before after p q : List A) → before ++ after ≡ p ++ q → Cuts before after p q
cuts [] after p q e = inside p refl e
cuts (x ∷ before) after [] q e = behind x before refl (sym e)
cuts (x ∷ before) after (y ∷ p) q e = one_more x y before after p q (first_same x y _ _ e) (cuts before after p q (later_same x y _ _ e))

-- ---- what follows

-- what is spelled, or else what may follow it, stops another reader
pub record Follows {A : Type 0} (spells : Spells A) (stops stopped : Stops) : Type 0 where
  pub some : (a : A) (piece : Piece) (pieces : List Piece) (token : Token) (tokens : List Token) → spells a (piece ∷ pieces) → Fits piece token → stopped (token ∷ tokens)
  pub none : (a : A) (rest : List Token) → spells a [] → stops rest → stopped rest

-- what has begun stops the other reader
pub begun_stops : {A : Type 0} (spells : Spells A) (stops stopped : Stops) (a : A) (piece : Piece) (pieces after : List Piece) (front mid others : List Token)
    → Follows spells stops stopped → spells a (piece ∷ pieces ++ after) → Stand (piece ∷ pieces) front → mid ≡ front ++ others → stopped mid
begun_stops spells stops stopped a piece pieces after [] mid others f s st e = absurd st
begun_stops spells stops stopped a piece pieces after (token ∷ front) mid others f s st e = subst stopped (sym e) (f.some a piece (pieces ++ after) token (front ++ others) s st.0)

-- what is there whole stops the other reader, and so does what follows it if it is empty
pub whole_stops : {A : Type 0} (spells : Spells A) (stops stopped : Stops) (a : A) (pieces : List Piece) (front mid rest : List Token)
    → Follows spells stops stopped → spells a pieces → Stand pieces front → mid ≡ front ++ rest → stops rest → stopped mid
whole_stops spells stops stopped a [] [] mid rest f s st e stop = subst stopped (sym e) (f.none a rest s stop)
whole_stops spells stops stopped a [] (token ∷ front) mid rest f s st e stop = absurd st
whole_stops spells stops stopped a (piece ∷ pieces) [] mid rest f s st e stop = absurd st
whole_stops spells stops stopped a (piece ∷ pieces) (token ∷ front) mid rest f s st e stop = subst stopped (sym e) (f.some a piece pieces token (front ++ rest) s st.0)

-- ---- one after another

-- one, and then what it says
pub record Then {A B : Type 0} (one : Spells A) (next : A → Spells B) (b : B) (pieces : List Piece) : Type 0 where
  pub a : A
  pub front : List Piece
  pub back : List Piece
  pub begins : one a front
  pub goes_on : next a b back
  pub joined : pieces ≡ front ++ back

-- the first is there whole, and of what it says there is something
record Later {A B : Type 0} (one : Spells A) (next : A → Spells B) (ts others : List Token) : Type 0 where
  a : A
  mid : List Token
  begins : Whole one ts a mid
  value : B
  piece : Piece
  pieces : List Piece
  after : List Piece
  front : List Token
  spelled : next a value (piece ∷ pieces ++ after)
  stands : Stand (piece ∷ pieces) front
  split : mid ≡ front ++ others

-- the first is there whole, and then all that it says
record Both {A B : Type 0} (one : Spells A) (next : A → Spells B) (ts : List Token) (b : B) (rest : List Token) : Type 0 where
  a : A
  mid : List Token
  begins : Whole one ts a mid
  goes_on : Whole (next a) mid b rest

-- the first is there in part, or whole and what it says in part
data FarAs {A B : Type 0} (one : Spells A) (next : A → Spells B) (ts others : List Token) : Type 0 where
  to_one : Part one ts others → FarAs one next ts others
  to_next : Later one next ts others → FarAs one next ts others

module _ {A B : Type 0} (one : Spells A) (next : A → Spells B) where
  -- both there whole are there whole together
  whole_then : (ts mid rest : List Token) (a : A) (b : B) → Whole one ts a mid → Whole (next a) mid b rest → Whole (Then one next) ts b rest
  whole_then ts mid rest a b v w = record {
    pieces = v.pieces ++ w.pieces;
    front = v.front ++ w.front;
    spelled = record { a = a; front = v.pieces; back = w.pieces; begins = v.spelled; goes_on = w.spelled; joined = refl };
    stands = stand_join v.pieces w.pieces v.front w.front v.stands w.stands;
    split = v.split ∙ ap (◌++◌ v.front) w.split ∙ sym (append_assoc v.front w.front rest);
  }

  -- the first whole and the second in part
  part_next : (ts mid others : List Token) (a : A) → Whole one ts a mid → Part (next a) mid others → Part (Then one next) ts others
  part_next ts mid others a v w = record {
    value = w.value;
    before = v.pieces ++ w.before;
    after = w.after;
    front = v.front ++ w.front;
    spelled = record { a = a; front = v.pieces; back = w.before ++ w.after; begins = v.spelled; goes_on = w.spelled; joined = append_assoc v.pieces w.before w.after };
    stands = stand_join v.pieces w.before v.front w.front v.stands w.stands;
    split = v.split ∙ ap (◌++◌ v.front) w.split ∙ sym (append_assoc v.front w.front others);
  }

  -- the first in part
  part_one : (ts others : List Token) → (v : Part one ts others) → Spelled (next v.value) → Part (Then one next) ts others
  part_one ts others v w = record {
    value = w.value;
    before = v.before;
    after = v.after ++ w.pieces;
    front = v.front;
    spelled = record { a = v.value; front = v.before ++ v.after; back = w.pieces; begins = v.spelled; goes_on = w.spelled; joined = sym (append_assoc v.before v.after w.pieces) };
    stands = v.stands;
    split = v.split;
  }

  -- what is there whole together is there whole, one after the other
  both : (ts : List Token) (b : B) (rest : List Token) → Whole (Then one next) ts b rest → Both one next ts b rest
  both ts b rest w =
      let t = w.spelled in
      let c = cut_tokens t.front t.back w.front (subst (λ pieces. Stand pieces w.front) t.joined w.stands) in
      record {
        a = t.a;
        mid = c.back ++ rest;
        begins = record { pieces = t.front; front = c.front; spelled = t.begins; stands = c.stands_front; split = w.split ∙ ap (λ f. f ++ rest) c.joined ∙ append_assoc c.front c.back rest };
        goes_on = record { pieces = t.back; front = c.back; spelled = t.goes_on; stands = c.stands_back; split = refl };
      }

  -- what is there in part together
  far_as : (ts others : List Token) → Part (Then one next) ts others → FarAs one next ts others
  far_as ts others w = go (cuts w.before w.after w.spelled.front w.spelled.back w.spelled.joined)
    where
      go : Cuts w.before w.after w.spelled.front w.spelled.back → FarAs one next ts others
      go (inside c e f) = to_one (record { value = w.spelled.a; before = w.before; after = c; front = w.front; spelled = subst (one w.spelled.a) e w.spelled.begins; stands = w.stands; split = w.split })
      go (behind x c e f) =
          let t = cut_tokens w.spelled.front (x ∷ c) w.front (subst (λ pieces. Stand pieces w.front) e w.stands) in
          to_next (record {
            a = w.spelled.a;
            mid = t.back ++ others;
            begins = record { pieces = w.spelled.front; front = t.front; spelled = w.spelled.begins; stands = t.stands_front; split = w.split ∙ ap (λ g. g ++ others) t.joined ∙ append_assoc t.front t.back others };
            value = w.value;
            piece = x;
            pieces = c;
            after = w.after;
            front = t.back;
            spelled = subst (next w.spelled.a w.value) f w.spelled.goes_on;
            stands = t.stands_back;
            split = refl;
          })

  -- where the first was read, what the second came to is sound
  next_sound : (ts mid : List Token) (a : A) (o : Outcome B) → Whole one ts a mid → Sound (next a) mid o → Sound (Then one next) ts o
  next_sound ts mid a (Ok q) v w = whole_then ts mid q.1 a q.0 v w
  next_sound ts mid a (Err left) v w = part_next ts mid left a v w

  -- what both came to is sound
  then_sound : (ts : List Token) (o : Outcome A) (f : A → Parser B) → Sound one ts o → ((a : A) (mid : List Token) → o ≡ Ok (a, mid) → Sound (next a) mid (f a mid))
      → ((a : A) → Spelled (next a)) → Sound (Then one next) ts (and_then o f)
  then_sound ts (Ok p) f s g some = next_sound ts p.1 p.0 (f p.0 p.1) s (g p.0 p.1 refl)
  then_sound ts (Err left) f s g some = part_one ts left s (some s.value)

  -- the second leaves no more than the first
  then_left : (o : Outcome A) (f : A → Parser B) → ((a : A) (mid : List Token) → o ≡ Ok (a, mid) → Sound (next a) mid (f a mid)) → length (left_of (and_then o f)) ≤ length (left_of o)
  then_left (Ok p) f g = never_grows (next p.0) p.1 (f p.0 p.1) (g p.0 p.1 refl)
  then_left (Err left) f g = omega arith

  -- one reader after another, where the second is right for what the first leaves
  pub then_at : (stops_one stops : Stops) (ts : List Token) (o : Outcome A) (f : A → Parser B) → RightAt one stops_one ts o
      → ((a : A) (mid : List Token) → o ≡ Ok (a, mid) → RightAt (next a) stops mid (f a mid))
      → ((a : A) → Spelled (next a)) → ((a : A) → Follows (next a) stops stops_one) → RightAt (Then one next) stops ts (and_then o f)
  then_at stops_one stops ts o f r g some follows = record {
    sound = then_sound ts o f r.sound (λ a mid e. (g a mid e).sound) some;
    complete = λ b rest w stop.
        let c = both ts b rest w in
        let stopped = whole_stops (next c.a) stops stops_one b c.goes_on.pieces c.goes_on.front c.mid rest (follows c.a) c.goes_on.spelled c.goes_on.stands c.goes_on.split stop in
        let e = r.complete c.a c.mid c.begins stopped in
        ap (λ o. and_then o f) e ∙ (g c.a c.mid e).complete b rest c.goes_on stop;
    reaches = λ others w. go others (far_as ts others w);
  }
    where
      go : (others : List Token) → FarAs one next ts others → length (left_of (and_then o f)) ≤ length others
      go others (to_one w) = le_trans (then_left o f (λ a mid e. (g a mid e).sound)) (r.reaches others w)
      go others (to_next c) =
          let stopped = begun_stops (next c.a) stops stops_one c.value c.piece c.pieces c.after c.front c.mid others (follows c.a) c.spelled c.stands c.split in
          let e = r.complete c.a c.mid c.begins stopped in
          let part : Part (next c.a) c.mid others = record { value = c.value; before = c.piece ∷ c.pieces; after = c.after; front = c.front; spelled = c.spelled; stands = c.stands; split = c.split } in
          subst (λ o. length (left_of (and_then o f)) ≤ length others) (sym e) ((g c.a c.mid e).reaches others part)
