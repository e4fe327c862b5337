-- The readers of kinds are right.
use Rattle.std.proofs.Common.{List, [], ap, codes, inl, inr, refl, sym, ℕ, ◌∙◌, ◌∷◌, ◌≡◌}
use Rattle.hal_base.specs.declared.value.Kind.{Kind}
use Rattle.hal_base.specs.declared.value.Kind.TheVariants as a_kind
use Rattle.program_tokens.specs.steps.Parsers.{expect, pure, ◌>>◌}
use Rattle.program_tokens.specs.Pieces.{Piece, plain}
use Rattle.program_tokens.proofs.Right.{Exactly, Right, Spells, Stops, respelled}
use Rattle.program_tokens.proofs.Choices.{Either}
use Rattle.program_tokens.proofs.Firsts.{Free, Heads, begins_follows}
use Rattle.program_tokens.proofs.Parts.{Made, as_made, exactly, last_word, made_begins, word_then}
use Rattle.program_tokens.proofs.Avoiding.{Avoids, Unseen, eat_right, plain_avoids}
use Rattle.program_tokens.proofs.Many.{closed_right}
use Rattle.program_tokens.specs.steps.Parsers.{kind, kinds}
use Rattle.program_tokens.specs.Pieces.{kind_pieces, kinds_pieces}

-- a kind that is this word
abbrev KindIs : Kind → List ℕ → Spells Kind
KindIs k word = Made {C = Unit {0}} (λ _. k) (λ _. plain word ∷ [])

-- either word is a kind
kind_to : (k : Kind) (pieces : List Piece) → Either (KindIs a_kind.Int (codes "int")) (KindIs a_kind.Text (codes "text")) k pieces → pieces ≡ kind_pieces k
kind_to k pieces (inl m) = m.as_parts ∙ ap kind_pieces (sym m.made)
kind_to k pieces (inr m) = m.as_parts ∙ ap kind_pieces (sym m.made)

-- a kind is either word
kind_from : (k : Kind) (pieces : List Piece) → pieces ≡ kind_pieces k → Either (KindIs a_kind.Int (codes "int")) (KindIs a_kind.Text (codes "text")) k pieces
kind_from a_kind.Int pieces e = inl (record { parts = tt; made = refl; as_parts = e })
kind_from a_kind.Text pieces e = inr (record { parts = tt; made = refl; as_parts = e })

-- a kind
pub kind_right : (stops : Stops) → Right (Exactly kind_pieces) stops kind
unfolding kind
kind_right stops ts = respelled kind_to kind_from
    (eat_right (codes "int") {one = KindIs a_kind.Int (codes "int")} {other = KindIs a_kind.Text (codes "text")} (pure a_kind.Int) (expect (codes "text") >> pure a_kind.Text)
    (last_word (codes "int") stops a_kind.Int)
    (last_word (codes "text") stops a_kind.Text)
    (begins_follows _ stops (Unseen (codes "int")) (made_begins (Avoids (codes "int")) (λ _. plain_avoids (codes "text") (codes "int") refl)))
    ts)

-- a kind is no `)`
pub kind_first : (k : Kind) → Heads (Avoids (codes ")")) (kind_pieces k)
kind_first a_kind.Int = plain_avoids (codes "int") (codes ")") refl
kind_first a_kind.Text = plain_avoids (codes "text") (codes ")") refl

-- kinds
pub kinds_right : (stops : Stops) → Right (Exactly kinds_pieces) stops kinds
unfolding kinds
kinds_right stops = exactly kinds_pieces (λ kinds. kinds) (λ kinds. refl) (λ kinds. refl)
    (word_then (codes "(") (as_made (closed_right kind_pieces Free stops kind (kind_right Free) kind_first (λ token tokens fits. tt) (λ token tokens fits. tt))))
