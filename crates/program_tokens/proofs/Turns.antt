-- Loops of readers, turn by turn.
use Rattle.std.proofs.Common.{◌≡◌, ◌≢◌, ℕ, zero, suc, ◌<◌, ◌≤◌, Bool, true, false, cond, List, [], ◌∷◌, ◌++◌, length, Result, Ok, Err, IsErrAnd, refl, sym, ap, subst, ◌∙◌, arith, codes}
use Rattle.std.proofs.lemmas.Result.{err_from_is_err_and}
use Rattle.program_tokens.specs.declared.token.Token.{Token}
use Rattle.program_tokens.specs.steps.Front.{sees, later, line_of}
use Rattle.program_tokens.specs.declared.fault.SyntaxFault.{SyntaxFault}
use Rattle.program_tokens.specs.declared.fault.SyntaxFault.TheVariants as fault
use Rattle.program_tokens.specs.steps.Parsers.{Outcome, Parser, Reads, and_then, ◌>>=◌, eat, separated, separated_from, block_from, while_from, pure}

later_shrinks : (ts : List Token) → length (later ts) ≤ length ts
later_shrinks [] = omega arith
later_shrinks (token ∷ ts) = omega arith

behind_shrinks : (b : Bool) (ts after : List Token) → cond b (later ts) ts ≡ after → length after ≤ length ts
behind_shrinks true ts after e = rw (← e) (later_shrinks ts)
behind_shrinks false ts after e = rw (← e) (omega arith)

abbrev left_of : {A : Type 0} → Outcome A → List Token
left_of (Ok p) = p.1
left_of (Err left) = left

-- taking a word or a mark, where it comes next, leaves no more tokens
pub eat_shrinks : (word : List ℕ) (ts : List Token) (found : Bool) (after : List Token) → eat word ts ≡ Ok (found, after) → length after ≤ length ts
unfolding eat
eat_shrinks word ts found after e = behind_shrinks (sees word ts) ts after (ap left_of e)

-- that is never refused
pub eat_reads : {A : Type 0} (word : List ℕ) (ts after : List Token) (whole : Outcome A) → eat word ts ≡ Err after → whole ≡ Err after
unfolding eat
eat_reads word ts after whole e = cc

-- where a part is refused at these tokens, and the whole with it
pub reads_refused : {A B : Type 0} (part : Outcome A) (whole : Outcome B) (found : Result B SyntaxFault) (left : List Token) (f : SyntaxFault) → IsErrAnd found (λ it. it ≡ f) → (f ≢ fault.Memory → (part ≡ Err left) × (f ≡ fault.At (line_of left))) → (part ≡ Err left → whole ≡ Err left) → Reads whole found left
reads_refused part whole found left f is read so =
    let r = err_from_is_err_and found is in
    rw (r.1, r.2) (λ other. let h = read other in (so h.0, h.1))

-- a part was read, and then the rest
pub reads_on : {A B : Type 0} (part : Outcome A) (a : A) (mid : List Token) (on : A → Parser B) (found : Result B SyntaxFault) (left : List Token) → part ≡ Ok (a, mid) → Reads (on a mid) found left → Reads (and_then part on) found left
reads_on part a mid on found left e read = subst (λ o. Reads (and_then o on) found left) (sym e) read

-- what is left of a loop, from these tokens and these items on, comes to what the whole comes to
pub record Separating {A : Type 0} (item : Parser A) (whole : Outcome (List A)) (found : List A) (ts : List Token) : Type 0 where
  pub turns : ℕ
  pub enough : length ts < turns
  pub left : whole ≡ separated_from item turns found ts

turn : (turns : ℕ) → 0 < turns → (n : ℕ) × (turns ≡ suc n)
turn zero l = absurd (omega arith)
turn (suc n) l = (n, refl)

module _ {A : Type 0} (item : Parser A) where
  pub separating_begins : (ts : List Token) → Separating item (separated item ts) [] ts
  separating_begins ts = record { turns = suc (length ts); enough = omega arith; left = refl }

  -- what follows an item
  abbrev pub behind_item : ℕ → List A → A → Parser (List A)
  behind_item n found x = eat (codes ",") >>= λ more. cond more (separated_from item n (found ++ x ∷ [])) (pure (found ++ x ∷ []))

  one_turn : {whole : Outcome (List A)} {found : List A} {ts : List Token} (s : Separating item whole found ts) → (n : ℕ) × (s.turns ≡ suc n) × (whole ≡ and_then (item ts) (behind_item n found))
  unfolding separated_from
  one_turn {whole} {found} {ts} s =
      let t = turn s.turns (let h = s.enough in omega (arith, h)) in
      (t.0, t.1, s.left ∙ ap (λ n. separated_from item n found ts) t.1)

  pub separating_refused : {whole : Outcome (List A)} {found : List A} {ts : List Token} (left : List Token) → Separating item whole found ts → item ts ≡ Err left → whole ≡ Err left
  separating_refused {whole} {found} {ts} left s e = let t = one_turn s in t.2 ∙ ap (λ o. and_then o (behind_item t.0 found)) e

  -- an item, and what comes of the comma behind it
  pub separating_item : {whole : Outcome (List A)} {found : List A} {ts : List Token} (x : A) (mid : List Token) → Separating item whole found ts → item ts ≡ Ok (x, mid)
      → (n : ℕ) × (length ts ≤ n) × (whole ≡ behind_item n found x mid)
  separating_item {whole} {found} {ts} x mid s e =
      let t = one_turn s in
      let h = s.enough in
      (t.0, omega (arith, h, t.1), t.2 ∙ ap (λ o. and_then o (behind_item t.0 found)) e)

  -- the last item
  pub separating_ends : {whole : Outcome (List A)} {found : List A} {ts : List Token} (x : A) (mid after : List Token) → Separating item whole found ts → item ts ≡ Ok (x, mid) → eat (codes ",") mid ≡ Ok (false, after) → whole ≡ Ok (found ++ x ∷ [], after)
  separating_ends {whole} {found} {ts} x mid after s e ate =
      let t = separating_item x mid s e in
      t.2 ∙ ap (λ o. and_then o (λ more. cond more (separated_from item t.0 (found ++ x ∷ [])) (pure (found ++ x ∷ [])))) ate

  -- an item and a comma more
  pub separating_more : {whole : Outcome (List A)} {found : List A} {ts : List Token} (x : A) (mid after : List Token) → Separating item whole found ts → item ts ≡ Ok (x, mid) → length mid < length ts → eat (codes ",") mid ≡ Ok (true, after) → Separating item whole (found ++ x ∷ []) after
  separating_more {whole} {found} {ts} x mid after s e shorter ate =
      let t = separating_item x mid s e in
      let fewer = eat_shrinks (codes ",") mid true after ate in
      record {
        turns = t.0;
        enough = omega (arith, shorter, fewer, t.1);
        left = t.2 ∙ ap (λ o. and_then o (λ more. cond more (separated_from item t.0 (found ++ x ∷ [])) (pure (found ++ x ∷ [])))) ate;
      }

-- the same of a block, up to its `}`
pub record Blocking {A : Type 0} (item : Parser A) (whole : Outcome (List A)) (found : List A) (ts : List Token) : Type 0 where
  pub turns : ℕ
  pub enough : length ts < turns
  pub left : whole ≡ block_from item turns found ts

module _ {A : Type 0} (item : Parser A) where
  pub blocking_begins : (ts : List Token) → Blocking item (block_from item (suc (length ts)) [] ts) [] ts
  blocking_begins ts = record { turns = suc (length ts); enough = omega arith; left = refl }

  -- what follows the look for `}`
  abbrev pub behind_look : ℕ → List A → Bool → Parser (List A)
  behind_look n found done = cond done (pure found) (item >>= λ x. block_from item n (found ++ x ∷ []))

  looked : {whole : Outcome (List A)} {found : List A} {ts : List Token} (done : Bool) (after : List Token) → Blocking item whole found ts → eat (codes "}") ts ≡ Ok (done, after) → (n : ℕ) × (length after ≤ n) × (whole ≡ behind_look n found done after)
  unfolding block_from
  looked {whole} {found} {ts} done after b ate =
      let t = turn b.turns (let h = b.enough in omega (arith, h)) in
      let h = b.enough in
      let fewer = eat_shrinks (codes "}") ts done after ate in
      (t.0, omega (arith, h, t.1, fewer), b.left ∙ ap (λ n. block_from item n found ts) t.1 ∙ ap (λ o. and_then o (behind_look t.0 found)) ate)

  -- the end of the block
  pub blocking_ends : {whole : Outcome (List A)} {found : List A} {ts : List Token} (after : List Token) → Blocking item whole found ts → eat (codes "}") ts ≡ Ok (true, after) → whole ≡ Ok (found, after)
  blocking_ends after b ate = let t = looked true after b ate in t.2

  pub blocking_refused : {whole : Outcome (List A)} {found : List A} {ts : List Token} (mid left : List Token) → Blocking item whole found ts → eat (codes "}") ts ≡ Ok (false, mid) → item mid ≡ Err left → whole ≡ Err left
  blocking_refused {whole} {found} {ts} mid left b ate e = let t = looked false mid b ate in t.2 ∙ ap (λ o. and_then o (λ x. block_from item t.0 (found ++ x ∷ []))) e

  -- a statement more
  pub blocking_more : {whole : Outcome (List A)} {found : List A} {ts : List Token} (mid after : List Token) (x : A) → Blocking item whole found ts → eat (codes "}") ts ≡ Ok (false, mid) → item mid ≡ Ok (x, after) → length after < length mid → Blocking item whole (found ++ x ∷ []) after
  blocking_more {whole} {found} {ts} mid after x b ate e shorter =
      let t = looked false mid b ate in
      record { turns = t.0; enough = omega (arith, shorter, t.1); left = t.2 ∙ ap (λ o. and_then o (λ x. block_from item t.0 (found ++ x ∷ []))) e }

-- the same of items that follow one another as long as the next begins so
pub record Going {A : Type 0} (begins : List Token → Bool) (item : Parser A) (whole : Outcome (List A)) (found : List A) (ts : List Token) : Type 0 where
  pub turns : ℕ
  pub enough : length ts < turns
  pub left : whole ≡ while_from begins item turns found ts

module _ {A : Type 0} (begins : List Token → Bool) (item : Parser A) where
  pub going_begins : (ts : List Token) → Going begins item (while_from begins item (suc (length ts)) [] ts) [] ts
  going_begins ts = record { turns = suc (length ts); enough = omega arith; left = refl }

  one_look : {whole : Outcome (List A)} {found : List A} {ts : List Token} (b : Bool) → Going begins item whole found ts → begins ts ≡ b → (n : ℕ) × (length ts ≤ n) × (whole ≡ cond b (and_then (item ts) (λ x. while_from begins item n (found ++ x ∷ []))) (Ok (found, ts)))
  unfolding while_from
  one_look {whole} {found} {ts} b g e =
      let t = turn g.turns (let h = g.enough in omega (arith, h)) in
      let h = g.enough in
      (t.0, omega (arith, h, t.1), g.left ∙ ap (λ n. while_from begins item n found ts) t.1 ∙ ap (λ b. cond b (and_then (item ts) (λ x. while_from begins item t.0 (found ++ x ∷ []))) (Ok (found, ts))) e)

  pub going_ends : {whole : Outcome (List A)} {found : List A} {ts : List Token} → Going begins item whole found ts → begins ts ≡ false → whole ≡ Ok (found, ts)
  going_ends g e = let t = one_look false g e in t.2

  pub going_refused : {whole : Outcome (List A)} {found : List A} {ts : List Token} (left : List Token) → Going begins item whole found ts → begins ts ≡ true → item ts ≡ Err left → whole ≡ Err left
  going_refused {whole} {found} {ts} left g b e = let t = one_look true g b in t.2 ∙ ap (λ o. and_then o (λ x. while_from begins item t.0 (found ++ x ∷ []))) e

  pub going_more : {whole : Outcome (List A)} {found : List A} {ts : List Token} (x : A) (after : List Token) → Going begins item whole found ts → begins ts ≡ true → item ts ≡ Ok (x, after) → length after < length ts → Going begins item whole (found ++ x ∷ []) after
  going_more {whole} {found} {ts} x after g b e shorter =
      let t = one_look true g b in
      record { turns = t.0; enough = omega (arith, shorter, t.1); left = t.2 ∙ ap (λ o. and_then o (λ x. while_from begins item t.0 (found ++ x ∷ []))) e }
