-- Readers that choose by the word that comes next.
use Rattle.std.proofs.Common.{Bool, Err, List, Ok, ap, cond, false, refl, subst, sym, true, true≢false, ℕ, ◌∙◌, ◌∷◌, ◌≡◌}
use Rattle.std.proofs.lemmas.Slice.Eq.{bytes_eq-Decides}
use Rattle.std.specs.Str.{bytes_eq}
use Rattle.program_tokens.specs.steps.Front.{is_plain, later, line_of, sees}
use Rattle.program_tokens.specs.Words.{is_name}
use Rattle.program_tokens.specs.declared.token.Token.{Token}
use Rattle.program_tokens.specs.steps.Parsers.{Outcome, Parser, and_then, eat, expect, expect_line, peek, ◌>>=◌, ◌>>◌}
use Rattle.program_tokens.specs.Pieces.{Piece, int, name, placed, plain, quoted}
use Rattle.program_tokens.specs.declared.token.Ident.{Ident}
use Rattle.program_tokens.proofs.Right.{Right, RightAt, Spells, Stops}
use Rattle.program_tokens.proofs.Sequences.{Follows}
use Rattle.program_tokens.proofs.Choices.{Either, Not, choose_at}
use Rattle.program_tokens.proofs.Firsts.{Stopping, begins_follows}
use Rattle.program_tokens.proofs.Parts.{Made, made_begins}

-- the word does not come next
abbrev pub Unseen : List ℕ → Stops
Unseen word = Not (sees word)

-- to take a word if it comes, and then to choose, is to choose by the word
eaten : {A : Type 0} (word : List ℕ) (p q : Parser A) (ts : List Token) → (eat word >>= λ b. cond b p q) ts ≡ cond (sees word ts) ((expect word >> p) ts) (q ts)
unfolding eat expect
eaten word p q ts = go (sees word ts)
  where
    go : (b : Bool) → cond b p q (cond b (later ts) ts) ≡ cond b (and_then (cond {A = Outcome (Unit {0})} b (Ok (tt, later ts)) (Err ts)) (λ _. p)) (q ts)
    go true = refl
    go false = refl

-- where the word does not come, the other reader reads
pub passed : {A : Type 0} (word : List ℕ) (p q : Parser A) (ts : List Token) → sees word ts ≡ false → (eat word >>= λ b. cond b p q) ts ≡ q ts
passed word p q ts e = eaten word p q ts ∙ ap (λ b. cond b ((expect word >> p) ts) (q ts)) e

-- a reader that begins with a word refuses where that does not come next
pub refused_unseen : {A : Type 0} (word : List ℕ) (p : Parser A) (ts : List Token) → sees word ts ≡ false → (expect word >> p) ts ≡ Err ts
unfolding expect
refused_unseen word p ts e = ap (λ b. and_then (cond b (Ok (tt, later ts)) (Err ts)) (λ _. p)) e

-- the same, where the line of the word is told
pub refused_unseen_line : {A : Type 0} (word : List ℕ) (f : ℕ → Parser A) (ts : List Token) → sees word ts ≡ false → (expect_line word >>= f) ts ≡ Err ts
unfolding expect_line
refused_unseen_line word f ts e = ap (λ b. and_then (cond b (Ok (line_of ts, later ts)) (Err ts)) f) e

-- a reader that begins with a word, or another that does not
pub eat_at : {A : Type 0} (word : List ℕ) (one other : Spells A) (stops : Stops) (ts : List Token) (p q : Parser A) → RightAt one stops ts ((expect word >> p) ts) → RightAt other stops ts (q ts)
    → Follows other stops (Unseen word) → RightAt (Either one other) stops ts ((eat word >>= λ b. cond b p q) ts)
eat_at word one other stops ts p q r t follows =
    subst (RightAt (Either one other) stops ts) (sym (eaten word p q ts)) (choose_at one other stops (sees word) ts ((expect word >> p) ts) (q ts) (refused_unseen word p ts) r t follows)

-- the same, for all tokens
pub eat_right : {A : Type 0} (word : List ℕ) {one other : Spells A} {stops : Stops} (p q : Parser A) → Right one stops (expect word >> p) → Right other stops q → Follows other stops (Unseen word)
    → Right (Either one other) stops (eat word >>= λ b. cond b p q)
eat_right word {one = one} {other = other} {stops = stops} p q r t follows ts = eat_at word one other stops ts p q (r ts) (t ts) follows

-- to look for a word, and then to choose, is to choose by the word
peeked : {A : Type 0} (word : List ℕ) (p q : Parser A) (ts : List Token) → (peek word >>= λ b. cond b p q) ts ≡ cond (sees word ts) (p ts) (q ts)
peeked word p q ts = go (sees word ts)
  where
    go : (b : Bool) → cond b p q ts ≡ cond b (p ts) (q ts)
    go true = refl
    go false = refl

-- a reader that a word begins, which is left there, or another that it does not begin
pub peek_right : {A : Type 0} (word : List ℕ) {one other : Spells A} {stops : Stops} (p q : Parser A) → ((ts : List Token) → sees word ts ≡ false → p ts ≡ Err ts) → Right one stops p → Right other stops q
    → Follows other stops (Unseen word) → Right (Either one other) stops (peek word >>= λ b. cond b p q)
peek_right word {one = one} {other = other} {stops = stops} p q guard r t follows ts =
    subst (RightAt (Either one other) stops ts) (sym (peeked word p q ts)) (choose_at one other stops (sees word) ts (p ts) (q ts) (guard ts) (r ts) (t ts) follows)

-- ---- places at which a word does not stand

-- no token that fits the place is this word
abbrev pub Avoids : List ℕ → Piece → Type 0
Avoids word = Stopping (Unseen word)

-- another word
pub plain_avoids : (other word : List ℕ) → bytes_eq other word ≡ false → Avoids word (plain other)
plain_avoids other word e token tokens fits = ap (is_plain word) fits ∙ e

-- another word in this line
pub placed_avoids : (other word : List ℕ) (line : ℕ) → bytes_eq other word ≡ false → Avoids word (placed other line)
placed_avoids other word line e token tokens fits = ap (is_plain word) fits.0 ∙ e

-- a number
pub int_avoids : (word : List ℕ) (n : _) → Avoids word (int n)
int_avoids word n token tokens fits = ap (is_plain word) fits.0

-- a text
pub quoted_avoids : (word text : List ℕ) (line : ℕ) → Avoids word (quoted text line)
quoted_avoids word text line token tokens fits = ap (is_plain word) fits.0

-- a name, where the word is none
pub name_avoids : (word : List ℕ) (i : Ident) → is_name word ≡ false → Avoids word (name i)
name_avoids word i reserved token tokens fits = ap (is_plain word) fits.0 ∙ go (bytes_eq i.text word) refl
  where
    go : (b : Bool) → bytes_eq i.text word ≡ b → b ≡ false
    go false e = refl
    go true e = absurd (true≢false (sym fits.2 ∙ ap is_name ((bytes_eq-Decides i.text word).0 e) ∙ reserved))

-- parts behind a mark, and what is stopped by it
pub mark_follows : {C B : Type 0} (make : C → B) (leaf : C → List Piece) (stops : Stops) (mark word : List ℕ) → bytes_eq mark word ≡ false → Follows (Made make (λ c. plain mark ∷ leaf c)) stops (Unseen word)
mark_follows make leaf stops mark word e = begins_follows (Made make (λ c. plain mark ∷ leaf c)) stops (Unseen word) (made_begins (Avoids word) (λ c. plain_avoids mark word e))
