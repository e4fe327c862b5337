-- When a reader is right: it reads what is spelled, all of it and nothing else, and gets past whatever is the beginning of something that is spelled.
use Rattle.std.proofs.Common.{Err, List, Ok, [], ap, arith, length, length-append, refl, subst, ◌++◌, ◌<◌, ◌∷◌, ◌≡◌, ◌≤◌}
use Rattle.program_tokens.specs.declared.token.Token.{Token}
use Rattle.program_tokens.specs.steps.Parsers.{Outcome, Parser}
use Rattle.program_tokens.specs.Pieces.{Piece, Stand}

-- how values are spelled
abbrev pub Spells : Type 0 → Type 1
Spells A = A → List Piece → Type 0

-- what may follow, so that it does not go on with what was read
abbrev pub Stops : Type 1
Stops = List Token → Type 0

-- the tokens that a reader leaves
abbrev pub left_of : {A : Type 0} → Outcome A → List Token
left_of (Ok p) = p.1
left_of (Err left) = left

-- the tokens are the value, spelled, and then the rest
pub record Whole {A : Type 0} (spells : Spells A) (ts : List Token) (a : A) (rest : List Token) : Type 0 where
  pub pieces : List Piece
  pub front : List Token
  pub spelled : spells a pieces
  pub stands : Stand pieces front
  pub split : ts ≡ front ++ rest

-- the tokens in front of the others are the beginning of something that is spelled
pub record Part {A : Type 0} (spells : Spells A) (ts others : List Token) : Type 0 where
  pub value : A
  pub before : List Piece
  pub after : List Piece
  pub front : List Token
  pub spelled : spells value (before ++ after)
  pub stands : Stand before front
  pub split : ts ≡ front ++ others

-- what an outcome says of the tokens
abbrev pub Sound : {A : Type 0} → Spells A → List Token → Outcome A → Type 0
Sound spells ts (Ok p) = Whole spells ts p.0 p.1
Sound spells ts (Err rest) = Part spells ts rest

-- the outcome is right for these tokens
pub record RightAt {A : Type 0} (spells : Spells A) (stops : Stops) (ts : List Token) (o : Outcome A) : Type 0 where
  pub sound : Sound spells ts o
  pub complete : (a : A) (rest : List Token) → Whole spells ts a rest → stops rest → o ≡ Ok (a, rest)
  pub reaches : (others : List Token) → Part spells ts others → length (left_of o) ≤ length others

-- the reader is right
abbrev pub Right : {A : Type 0} → Spells A → Stops → Parser A → Type 0
Right spells stops p = (ts : List Token) → RightAt spells stops ts (p ts)

-- spelled as these places and no others
abbrev pub Exactly : {A : Type 0} → (A → List Piece) → Spells A
Exactly leaf a pieces = pieces ≡ leaf a

-- ---- what follows from it

-- a reader never leaves more than there was
pub never_grows : {A : Type 0} (spells : Spells A) (ts : List Token) (o : Outcome A) → Sound spells ts o → length (left_of o) ≤ length ts
never_grows spells ts (Ok p) s = omega (arith, ap length s.split, length-append s.front p.1)
never_grows spells ts (Err left) s = omega (arith, ap length s.split, length-append s.front left)

-- what was read is shorter where something was there to be read
pub read_shorter : {A : Type 0} (spells : Spells A) (ts : List Token) (o : Outcome A) (a : A) (rest : List Token) → Sound spells ts o → ((a : A) → spells a [] → ⊥) → o ≡ Ok (a, rest) → length rest < length ts
read_shorter spells ts o a rest s some e = go (subst (Sound spells ts) e s)
  where
    at_least_one : (pieces : List Piece) (front : List Token) → spells a pieces → Stand pieces front → 0 < length front
    at_least_one [] front s st = absurd (some a s)
    at_least_one (piece ∷ pieces) [] s st = absurd st
    at_least_one (piece ∷ pieces) (token ∷ front) s st = omega arith

    go : Whole spells ts a rest → length rest < length ts
    go w = omega (arith, ap length w.split, length-append w.front rest, at_least_one w.pieces w.front w.spelled w.stands)

-- something is spelled
pub record Spelled {A : Type 0} (spells : Spells A) : Type 0 where
  pub value : A
  pub pieces : List Piece
  pub spelled : spells value pieces

-- where an outcome is sound, something is spelled
pub sound_spelled : {A : Type 0} (spells : Spells A) (ts : List Token) (o : Outcome A) → Sound spells ts o → Spelled spells
sound_spelled spells ts (Ok p) s = record { value = p.0; pieces = s.pieces; spelled = s.spelled }
sound_spelled spells ts (Err left) s = record { value = s.value; pieces = s.before ++ s.after; spelled = s.spelled }

-- where a reader is right, something is spelled
pub right_spelled : {A : Type 0} {spells : Spells A} {stops : Stops} {p : Parser A} → Right spells stops p → Spelled spells
right_spelled {p = p} r = sound_spelled _ [] (p []) (r []).sound

-- ---- the same, said otherwise

-- what is there whole is there whole, said otherwise
pub whole_respelled : {A : Type 0} (s t : Spells A) (ts : List Token) (a : A) (rest : List Token) → ((pieces : List Piece) → s a pieces → t a pieces) → Whole s ts a rest → Whole t ts a rest
whole_respelled s t ts a rest f w = record { pieces = w.pieces; front = w.front; spelled = f w.pieces w.spelled; stands = w.stands; split = w.split }

-- what is there in part is there in part, said otherwise
pub part_respelled : {A : Type 0} (s t : Spells A) (ts others : List Token) → ((a : A) (pieces : List Piece) → s a pieces → t a pieces) → Part s ts others → Part t ts others
part_respelled s t ts others f w = record { value = w.value; before = w.before; after = w.after; front = w.front; spelled = f w.value _ w.spelled; stands = w.stands; split = w.split }

-- what is sound is sound, said otherwise
pub sound_respelled : {A : Type 0} (s t : Spells A) (ts : List Token) (o : Outcome A) → ((a : A) (pieces : List Piece) → s a pieces → t a pieces) → Sound s ts o → Sound t ts o
sound_respelled s t ts (Ok p) f w = whole_respelled s t ts p.0 p.1 (f p.0) w
sound_respelled s t ts (Err left) f w = part_respelled s t ts left f w

-- right for a spelling is right for the same spelling said otherwise
pub respelled : {A : Type 0} {s t : Spells A} {stops : Stops} {ts : List Token} {o : Outcome A}
    → ((a : A) (pieces : List Piece) → s a pieces → t a pieces) → ((a : A) (pieces : List Piece) → t a pieces → s a pieces) → RightAt s stops ts o → RightAt t stops ts o
respelled {s = s} {t = t} {ts = ts} {o = o} f g r = record {
  sound = sound_respelled s t ts o f r.sound;
  complete = λ a rest w. r.complete a rest (whole_respelled t s ts a rest (g a) w);
  reaches = λ others w. r.reaches others (part_respelled t s ts others g w);
}

-- a reader stays right where fewer tokens may follow
pub restopped : {A : Type 0} {spells : Spells A} {some fewer : Stops} {ts : List Token} {o : Outcome A}
    → ((rest : List Token) → fewer rest → some rest) → RightAt spells some ts o → RightAt spells fewer ts o
restopped f r = record { sound = r.sound; complete = λ a rest w st. r.complete a rest w (f rest st); reaches = r.reaches }

-- ---- of a right reader

-- what is spelled is read, where nothing behind it goes on with it
pub right_complete : {A : Type 0} {spells : Spells A} {stops : Stops} {p : Parser A} → Right spells stops p
    → (a : A) (pieces : List Piece) (front rest : List Token) → spells a pieces → Stand pieces front → stops rest → p (front ++ rest) ≡ Ok (a, rest)
right_complete r a pieces front rest s st stop = (r (front ++ rest)).complete a rest (record { pieces = pieces; front = front; spelled = s; stands = st; split = refl }) stop

-- where the tokens are the beginning of something that is spelled, the reader gets past them
pub right_reaches : {A : Type 0} {spells : Spells A} {stops : Stops} {p : Parser A} → Right spells stops p
    → (a : A) (before after : List Piece) (front others : List Token) → spells a (before ++ after) → Stand before front → length (left_of (p (front ++ others))) ≤ length others
right_reaches r a before after front others s st = (r (front ++ others)).reaches others (record { value = a; before = before; after = after; front = front; spelled = s; stands = st; split = refl })

-- what was read is there, spelled
pub right_read : {A : Type 0} {spells : Spells A} {stops : Stops} {p : Parser A} → Right spells stops p → (ts : List Token) (a : A) (rest : List Token) → p ts ≡ Ok (a, rest) → Whole spells ts a rest
right_read {spells = spells} r ts a rest e = subst (Sound spells ts) e (r ts).sound

-- the tokens in front of those that are refused are the beginning of something that is spelled
pub right_refused : {A : Type 0} {spells : Spells A} {stops : Stops} {p : Parser A} → Right spells stops p → (ts left : List Token) → p ts ≡ Err left → Part spells ts left
right_refused {spells = spells} r ts left e = subst (Sound spells ts) e (r ts).sound

-- and no more tokens are such a beginning
pub right_no_further : {A : Type 0} {spells : Spells A} {stops : Stops} {p : Parser A} → Right spells stops p → (ts left : List Token) → p ts ≡ Err left
    → (others : List Token) → Part spells ts others → length left ≤ length others
right_no_further r ts left e others w = subst (λ o. length (left_of o) ≤ length others) e ((r ts).reaches others w)
