-- How far a comment goes.
use Rattle.std.proofs.Common.{◌≡◌, ℕ, zero, suc, ◌<◌, true, nat_eq, List, [], ◌∷◌, refl, sym, subst, length, drop, get_or, arith, eqb-true}
use Rattle.hal_base.proofs.Cuts.{NoneBefore, first, later}
use Rattle.program_tokens.specs.Tokens.{behind_comment, from_token, line_ends}

-- a comment goes to the first LF
pub comment_first : (text : List ℕ) (at : ℕ) → at < length text → NoneBefore 10 text at → nat_eq (get_or text at 0) 10 ≡ true → (from_token (drop at text) ≡ behind_comment text) × (line_ends (drop at text) ≡ line_ends text)
comment_first [] at l n y = absurd (omega arith)
comment_first (b ∷ bs) zero l n y = let e : b ≡ 10 = eqb-true b 10 y in (subst (λ x. from_token (x ∷ bs) ≡ behind_comment (x ∷ bs)) (sym e) refl, refl)
comment_first (b ∷ bs) (suc at) l n y = let r = comment_first bs at (omega arith) (later 10 b bs at n) y in (rw (first 10 b bs at n) r.0, rw (first 10 b bs at n) r.1)

-- a comment with no LF goes to the end
pub comment_none : (text : List ℕ) → NoneBefore 10 text (length text) → (behind_comment text ≡ []) × (line_ends text ≡ 0)
comment_none [] n = (refl, refl)
comment_none (b ∷ bs) n = let r = comment_none bs (later 10 b bs (length bs) n) in (rw (first 10 b bs (length bs) n) r.0, rw (first 10 b bs (length bs) n) r.1)
