-- What the pieces of a line say.
use Rattle.std.proofs.Common.{◌≡◌, ℕ, true, false, nat_eq, List, [], ◌∷◌, Option, None, refl, sym, ap, ◌∙◌, subst, cond}
use Rattle.std.specs.List.{onto_first}
use Rattle.std.proofs.lemmas.Bool.{eqb-true}
use Rattle.schedule_text.specs.Lines.{event_in, is_skipped, pieces_of, said, setting_in, two_of}
use Rattle.schedule_text.specs.Words.{event_named, setting_named}

-- three pieces are not two
pub three : (a b : List ℕ) (c : List ℕ) (cs : List (List ℕ)) → two_of (a ∷ b ∷ c ∷ cs) ≡ None
three a [] c cs = refl
three a (b ∷ bytes) c cs = refl

-- what begins with `#` names nothing
module _ {X : Type 0} (named : List ℕ → Option X) (none : (bytes : List ℕ) → named (35 ∷ bytes) ≡ None) where
  unnamed : (pieces : List (List ℕ)) → said named (two_of (onto_first 35 pieces)) ≡ None
  unnamed [] = refl
  unnamed (p ∷ []) = refl
  unnamed (p ∷ [] ∷ []) = refl
  unnamed (p ∷ (b ∷ bytes) ∷ []) = rw (none p)
  unnamed (p ∷ [] ∷ q ∷ qs) = refl
  unnamed (p ∷ (b ∷ bytes) ∷ q ∷ qs) = refl

  pub skipped : (line : List ℕ) → is_skipped line ≡ true → said named (two_of (pieces_of line)) ≡ None
  skipped [] e = refl
  skipped (b ∷ bytes) e = subst (λ (x : ℕ). said named (two_of (pieces_of (x ∷ bytes))) ≡ None) (sym (eqb-true b 35 e)) (unnamed (pieces_of bytes))

no_setting : (bytes : List ℕ) → setting_named (35 ∷ bytes) ≡ None
unfolding setting_named
no_setting bytes = refl

no_event : (bytes : List ℕ) → event_named (35 ∷ bytes) ≡ None
unfolding event_named
no_event bytes = refl

-- a skipped line gives nothing, and is no event
pub skipped_setting : (line : List ℕ) → is_skipped line ≡ true → setting_in line ≡ None
skipped_setting line e = skipped setting_named no_setting line e

pub skipped_event : (line : List ℕ) → is_skipped line ≡ true → event_in line ≡ None
skipped_event line e = skipped event_named no_event line e

some_piece : (line : List ℕ) → (piece : List ℕ) × (pieces : List (List ℕ)) × (pieces_of line ≡ piece ∷ pieces)
some_piece [] = ([], [], refl)
some_piece (b ∷ line) =
    elim (nat_eq b 32) as (λ t. (piece : List ℕ) × (pieces : List (List ℕ)) × (cond t ([] ∷ pieces_of line) (onto_first b (pieces_of line)) ≡ piece ∷ pieces)) [
      | true ↦ ([], pieces_of line, refl)
      | false ↦ let p = some_piece line in (b ∷ p.0, p.1, ap (onto_first b) p.2)
    ]

-- a line of more than two pieces has not two words alone
pub many : (line left behind : List ℕ) (word number : List ℕ) → pieces_of line ≡ word ∷ pieces_of left → pieces_of left ≡ number ∷ pieces_of behind → two_of (pieces_of line) ≡ None
many line left behind word number e f =
    let p = some_piece behind in
    ap two_of (e ∙ ap (λ (ps : List (List ℕ)). word ∷ ps) (f ∙ ap (λ (ps : List (List ℕ)). number ∷ ps) p.2)) ∙ three word number p.0 p.1
