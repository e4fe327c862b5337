-- The readers of parameters and streams are right.
use Rattle.std.proofs.Common.{List, [], codes, refl, ℕ, ◌∷◌}
use Rattle.hal_base.specs.declared.value.Kind.{Kind}
use Rattle.program_tokens.specs.Pieces.{name, plain}
use Rattle.program_tokens.specs.steps.Parsers.{ident}
use Rattle.function_language.specs.steps.Reading.{before, param, stream}
use Rattle.function_language.specs.Spelled.{param_pieces, stream_pieces}
use Rattle.program_tokens.specs.declared.token.Ident.{Ident}
use Rattle.program_tokens.proofs.Right.{Exactly, Right, Stops}
use Rattle.program_tokens.proofs.Firsts.{Free}
use Rattle.program_tokens.proofs.OneToken.{ident_right}
use Rattle.program_tokens.proofs.Parts.{exactly, free_part, last_part}
use Rattle.function_language.proofs.Before.{free_before}
use Rattle.program_tokens.proofs.KindReaders.{kind_right, kinds_right}

-- a name before a word or mark
pub named_before : (word : List ℕ) (stops : Stops) → Right (Exactly (λ i. name i ∷ plain word ∷ [])) stops (before word ident)
named_before word stops = free_before word (λ i. name i ∷ []) stops ident (ident_right Free)

-- a parameter
pub param_right : (stops : Stops) → Right (Exactly param_pieces) stops param
unfolding param
param_right stops = exactly param_pieces (λ p. (p.name, p.kind)) (λ p. refl) (λ c. refl)
    (free_part {make = λ (c : Ident × Kind). record { name = c.0; kind = c.1 }} (named_before (codes ":") Free) (λ i. last_part (λ k. record { name = i; kind = k }) (kind_right stops)))

-- a stream
pub stream_right : (stops : Stops) → Right (Exactly stream_pieces) stops stream
unfolding stream
stream_right stops = exactly stream_pieces (λ s. (s.name, s.kinds)) (λ s. refl) (λ c. refl)
    (free_part {make = λ (c : Ident × List Kind). record { name = c.0; kinds = c.1 }} (named_before (codes ":") Free) (λ i. last_part (λ ks. record { name = i; kinds = ks }) (kinds_right stops)))
