-- The readers of lines that are a word, a name or a number, and `;` are right.
use Rattle.std.proofs.Common.{List, [], codes, refl, ℕ, ◌∷◌}
use Rattle.program_tokens.specs.Pieces.{Piece, name, natural, plain}
use Rattle.program_tokens.specs.declared.token.Ident.{Ident}
use Rattle.program_tokens.specs.declared.token.Number.{Number}
use Rattle.program_tokens.proofs.Right.{Exactly, Right, Stops}
use Rattle.program_tokens.proofs.Firsts.{Free}
use Rattle.program_tokens.proofs.OneToken.{ident_right, natural_right}
use Rattle.program_tokens.proofs.Parts.{exactly, free_part, last_word, word_then}
use Rattle.program_sketch.specs.steps.Reading.{ident_line, natural_line}

-- a word, a name and `;`
abbrev pub ident_line_pieces : List ℕ → Ident → List Piece
ident_line_pieces word i = plain word ∷ name i ∷ plain (codes ";") ∷ []

-- a word, a number and `;`
abbrev pub natural_line_pieces : List ℕ → Number → List Piece
natural_line_pieces word n = plain word ∷ natural n ∷ plain (codes ";") ∷ []

-- a line with a name is read right
pub ident_line_right : (word : List ℕ) (stops : Stops) → Right (Exactly (ident_line_pieces word)) stops (ident_line word)
unfolding ident_line
ident_line_right word stops = exactly (ident_line_pieces word) (λ i. (i, tt)) (λ i. refl) (λ c. refl)
    (word_then word (free_part {make = λ (c : Ident × Unit {0}). c.0} (ident_right Free) (λ i. last_word (codes ";") stops i)))

-- a line with a number is read right
pub natural_line_right : (word : List ℕ) (stops : Stops) → Right (Exactly (natural_line_pieces word)) stops (natural_line word)
unfolding natural_line
natural_line_right word stops = exactly (natural_line_pieces word) (λ n. (n, tt)) (λ n. refl) (λ c. refl)
    (word_then word (free_part {make = λ (c : Number × Unit {0}). c.0} (natural_right Free) (λ n. last_word (codes ";") stops n)))
