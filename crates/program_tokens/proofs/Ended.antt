-- Readers that go to the end of a text.
use Rattle.std.proofs.Common.{[], ◌∷◌, ◌++◌, ◌≡◌, ◌≢◌, ℕ, true, false, cond, Ok, Err, List, sym, ap, subst, ◌∙◌}
use Rattle.program_tokens.specs.declared.token.Token.{Token}
use Rattle.program_tokens.specs.steps.Front.{at_end, later, line_of}
use Rattle.program_tokens.specs.declared.fault.SyntaxFault.{SyntaxFault}
use Rattle.program_tokens.specs.declared.fault.SyntaxFault.TheVariants.{At, Memory}
use Rattle.program_tokens.specs.steps.Parsers.{Outcome, Parser, and_then, ◌>>=◌, ◌>>◌, expect_end, pure}
use Rattle.program_tokens.specs.Pieces.{Piece, end}
use Rattle.program_tokens.specs.Texts.{HasFaultAt, IsTextOf, Refuses}
use Rattle.program_tokens.specs.Tokens.{AreTokensOf}
use Rattle.program_tokens.proofs.Firsts.{Free}
use Rattle.program_tokens.proofs.Inner.{AreInner}
use Rattle.program_tokens.proofs.Right.{Exactly, Right}
use Rattle.program_tokens.proofs.Whole.{fault_read, text_read}

-- a reader, and then the end
abbrev pub to_end : {A : Type 0} → Parser A → Parser A
to_end p = p >>= λ a. expect_end >> pure a

pub end_refused : {A : Type 0} (p : Parser A) (ts left : List Token) → p ts ≡ Err left → to_end p ts ≡ Err left
end_refused p ts left e = ap (λ o. and_then o (λ a. expect_end >> pure a)) e

pub end_missed : {A : Type 0} (p : Parser A) (ts mid : List Token) (a : A) → p ts ≡ Ok (a, mid) → at_end mid ≡ false → to_end p ts ≡ Err mid
unfolding expect_end
end_missed p ts mid a e not = ap (λ o. and_then o (λ a. expect_end >> pure a)) e ∙ ap (λ b. and_then (cond b (Ok (tt, later mid)) (Err mid)) (λ _. pure a)) not

pub end_met : {A : Type 0} (p : Parser A) (ts mid : List Token) (a : A) → p ts ≡ Ok (a, mid) → at_end mid ≡ true → to_end p ts ≡ Ok (a, later mid)
unfolding expect_end
end_met p ts mid a e is = ap (λ o. and_then o (λ a. expect_end >> pure a)) e ∙ ap (λ b. and_then (cond b (Ok (tt, later mid)) (Err mid)) (λ _. pure a)) is

at_line : SyntaxFault → ℕ
at_line (At line) = line
at_line Memory = 0

line_is : (line : ℕ) (left : List Token) → (At line ≢ Memory → At line ≡ At (line_of left)) → line ≡ line_of left
unfolding at_line
line_is line left is = ap at_line (is (λ e. cc))

-- what a fault says, where that of the first token left says it
pub refuses_at : {A : Type 0} {spelled : A → List Piece} {text : List ℕ} (f : SyntaxFault) (left : List Token) → (f ≢ Memory → f ≡ At (line_of left)) → HasFaultAt spelled text (line_of left) → Refuses spelled text f
refuses_at Memory left is has = tt
refuses_at {A} {spelled} {text} (At line) left is has = subst (HasFaultAt spelled text) (sym (line_is line left is)) has

-- the same, where a fault comes of the first token that was not read
pub refuses_read : {A : Type 0} {B : Type 0} {spelled : A → List Piece} {text : List ℕ} (o : Outcome B) (f : SyntaxFault) (left : List Token) → (f ≢ Memory → (o ≡ Err left) × (f ≡ At (line_of left))) → (o ≡ Err left → HasFaultAt spelled text (line_of left)) → Refuses spelled text f
refuses_read o Memory left is has = tt
refuses_read {A} {B} {spelled} {text} o (At line) left is has =
    let h = is (λ e. cc) in
    refuses_at (At line) left (λ other. h.1) (has h.0)

module _ {A : Type 0} {spelled : A → List Piece} (inner : A → List Piece) (whole : (a : A) → spelled a ≡ inner a ++ end ∷ []) (kept : (a : A) → AreInner (inner a)) (p : Parser A) (right : Right (Exactly spelled) Free (to_end p)) where
  -- what was read, behind which the end comes, is what the text is of
  pub ended_read : (text : List ℕ) (ts mid : List Token) (a : A) → AreTokensOf text ts → p ts ≡ Ok (a, mid) → at_end mid ≡ true → IsTextOf spelled text a
  ended_read text ts mid a are e is = text_read inner whole kept right text ts (later mid) a are (end_met p ts mid a e is)

  -- where the end was to come and does not, the text has its fault
  pub unended_refused : (text : List ℕ) (ts mid : List Token) (a : A) → AreTokensOf text ts → p ts ≡ Ok (a, mid) → at_end mid ≡ false → HasFaultAt spelled text (line_of mid)
  unended_refused text ts mid a are e not = fault_read inner whole kept right text ts mid are (end_missed p ts mid a e not)

  -- so it has where a fault came before
  pub fault_refused : (text : List ℕ) (ts left : List Token) (f : SyntaxFault) → AreTokensOf text ts → (f ≢ Memory → (p ts ≡ Err left) × (f ≡ At (line_of left))) → Refuses spelled text f
  fault_refused text ts left f are is = refuses_read (p ts) f left is (λ e. fault_read inner whole kept right text ts left are (end_refused p ts left e))
