-- The reader of the lines above the tables is right.
use Rattle.std.proofs.Common.{List, [], ap, append_assoc, codes, inl, inr, refl, sym, ◌++◌, ◌∙◌, ◌∷◌, ◌≡◌}
use Rattle.program_tokens.specs.steps.Parsers.{pure}
use Rattle.program_tokens.specs.Pieces.{Piece, name, natural, plain}
use Rattle.program_tokens.specs.declared.token.Ident.{Ident}
use Rattle.program_tokens.specs.declared.token.Number.{Number}
use Rattle.program_tokens.proofs.Right.{Exactly, Right, Spells, Stops, respelled}
use Rattle.program_tokens.proofs.Choices.{Either}
use Rattle.program_tokens.proofs.Firsts.{Free, begins_follows}
use Rattle.program_tokens.proofs.OneToken.{ident_right, natural_right}
use Rattle.program_tokens.proofs.Parts.{Made, exactly, free_part, last_part, last_word, made_begins, word_then}
use Rattle.program_tokens.proofs.Avoiding.{Avoids, Unseen, eat_right, plain_avoids}
use Rattle.program_sketch.specs.steps.Reading.{below, head, stop, stop_line}
use Rattle.program_sketch.specs.Spelled.{asked_pieces, stop_pieces}
use Rattle.program_sketch.specs.declared.reader.Head.{Head}
use Rattle.program_sketch.specs.declared.sketch.Asked.{Asked}
use Rattle.program_sketch.specs.declared.sketch.StopSketch.{StopSketch}
use Rattle.program_sketch.specs.declared.sketch.StopSketch.TheVariants.{Below, Exact}
use Rattle.program_sketch.proofs.GrammarCaches.{NoCache, asked_right}
use Rattle.program_sketch.proofs.GrammarLines.{ident_line_pieces, ident_line_right, natural_line_pieces, natural_line_right}

-- ---- when a program stops

-- where nothing changes
abbrev AtNoChange : Spells StopSketch
AtNoChange = Made {C = Unit {0}} (λ _. Exact) (λ _. plain (codes "exact") ∷ [])

-- where the distance is below a threshold
abbrev AtDistance : Spells StopSketch
AtDistance = Made {C = Number × Ident} (λ c. Below c.0 c.1) (λ c. plain (codes "below") ∷ natural c.0 ∷ plain (codes "by") ∷ name c.1 ∷ [])

-- that is read right
below_right : (stops : Stops) → Right AtDistance stops below
unfolding below
below_right stops = word_then (codes "below") (free_part {make = λ (c : Number × Ident). Below c.0 c.1} (natural_right Free) (λ n. word_then (codes "by") (last_part (λ i. Below n i) (ident_right stops))))

-- one of both is when a program stops
stop_to : (s : StopSketch) (pieces : List Piece) → Either AtNoChange AtDistance s pieces → pieces ≡ stop_pieces s
stop_to s pieces (inl m) = m.as_parts ∙ ap stop_pieces (sym m.made)
stop_to s pieces (inr m) = m.as_parts ∙ ap stop_pieces (sym m.made)

-- when a program stops is one of both
stop_from : (s : StopSketch) (pieces : List Piece) → pieces ≡ stop_pieces s → Either AtNoChange AtDistance s pieces
stop_from Exact pieces e = inl (record { parts = tt; made = refl; as_parts = e })
stop_from (Below threshold by) pieces e = inr (record { parts = (threshold, by); made = refl; as_parts = e })

-- when a program stops
pub stop_right : (stops : Stops) → Right (Exactly stop_pieces) stops stop
unfolding stop
stop_right stops ts = respelled stop_to stop_from
    (eat_right (codes "exact") {one = AtNoChange} {other = AtDistance} (pure Exact) below
    (last_word (codes "exact") stops Exact)
    (below_right stops)
    (begins_follows AtDistance stops (Unseen (codes "exact")) (made_begins (Avoids (codes "exact")) (λ c. plain_avoids (codes "below") (codes "exact") refl)))
    ts)

-- the line that says so
abbrev stop_line_pieces : StopSketch → List Piece
stop_line_pieces s = plain (codes "stop") ∷ stop_pieces s ++ plain (codes ";") ∷ []

-- that line is read right
pub stop_line_right : (stops : Stops) → Right (Exactly stop_line_pieces) stops stop_line
unfolding stop_line
stop_line_right stops = exactly stop_line_pieces (λ s. (s, tt)) (λ s. refl) (λ c. refl)
    (word_then (codes "stop") (free_part {make = λ (c : StopSketch × Unit {0}). c.0} (stop_right Free) (λ s. last_word (codes ";") stops s)))

-- ---- the lines above the tables

-- how they are spelled
abbrev pub head_of : Head → List Piece
head_of h =
    plain (codes "program") ∷ name h.name ∷ plain (codes ";") ∷ plain (codes "parts") ∷ natural h.parts ∷ plain (codes ";") ∷ plain (codes "rounds") ∷ natural h.rounds ∷ plain (codes ";")
    ∷ plain (codes "stop") ∷ stop_pieces h.stop ++ plain (codes ";") ∷ asked_pieces h.asked

-- what they are made of
abbrev HeadParts : Type 0
HeadParts = Ident × (Number × (Number × (StopSketch × Asked)))

-- a head of its parts
abbrev made_head : HeadParts → Head
made_head c = record { name = c.0; parts = c.1.0; rounds = c.1.1.0; stop = c.1.1.1.0; asked = c.1.1.1.1 }

-- the lines one after another are spelled so
head_spelled : (c : HeadParts)
    → ident_line_pieces (codes "program") c.0 ++ (natural_line_pieces (codes "parts") c.1.0 ++ (natural_line_pieces (codes "rounds") c.1.1.0 ++ (stop_line_pieces c.1.1.1.0 ++ asked_pieces c.1.1.1.1))) ≡ head_of (made_head c)
head_spelled c = ap (λ pieces. ident_line_pieces (codes "program") c.0 ++ (natural_line_pieces (codes "parts") c.1.0 ++ (natural_line_pieces (codes "rounds") c.1.1.0 ++ plain (codes "stop") ∷ pieces)))
    (append_assoc (stop_pieces c.1.1.1.0) (plain (codes ";") ∷ []) (asked_pieces c.1.1.1.1))

-- the lines above the tables
pub head_right : Right (Exactly head_of) NoCache head
unfolding head
head_right = exactly head_of (λ h. (h.name, (h.parts, (h.rounds, (h.stop, h.asked))))) (λ h. refl) head_spelled
    (free_part {make = made_head} (ident_line_right (codes "program") Free) (λ i.
    free_part (natural_line_right (codes "parts") Free) (λ parts.
    free_part (natural_line_right (codes "rounds") Free) (λ rounds.
    free_part (stop_line_right Free) (λ stops.
    last_part (λ caches. made_head (i, (parts, (rounds, (stops, caches))))) asked_right)))))
