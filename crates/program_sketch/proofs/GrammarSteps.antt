-- The readers of steps are right.
use Rattle.std.proofs.Common.{Err, List, None, Option, Some, [], ap, append_assoc, codes, false, inl, inr, refl, sym, ℕ, ◌++◌, ◌∙◌, ◌∷◌, ◌≡◌}
use Rattle.std.specs.List.{flat_map}
use Rattle.program_tokens.specs.steps.Front.{sees}
use Rattle.program_tokens.specs.declared.token.Token.{Token}
use Rattle.program_tokens.specs.steps.Parsers.{Parser, and_then, expect, pure, ◌>>=◌, ◌>>◌}
use Rattle.program_tokens.specs.steps.Parsers as read
use Rattle.program_tokens.specs.Pieces.{Piece, name, natural, placed, plain}
use Rattle.program_tokens.specs.declared.token.Ident.{Ident}
use Rattle.program_tokens.specs.declared.token.Number.{Number}
use Rattle.program_tokens.proofs.Right.{Exactly, Right, Spells, Stops, respelled}
use Rattle.program_tokens.proofs.Choices.{Either}
use Rattle.program_tokens.proofs.Firsts.{Free}
use Rattle.program_tokens.proofs.OneToken.{expect_line_right, ident_right, natural_right}
use Rattle.program_tokens.proofs.Parts.{Made, exactly, free_part, last_part, last_word, nothing_follows, part, pure_made, word_then}
use Rattle.program_tokens.proofs.Avoiding.{Unseen, eat_right, mark_follows, peek_right, refused_unseen, refused_unseen_line}
use Rattle.program_tokens.proofs.Many.{first_and_repeated, while_from_right}
use Rattle.program_sketch.specs.steps.Reading.{ident_line, input, only, partition, step, step_rest, steps}
use Rattle.program_sketch.specs.Spelled.{input_pieces, only_pieces, partition_pieces, step_pieces, steps_pieces}
use Rattle.program_sketch.specs.declared.sketch.InputSketch.{InputSketch}
use Rattle.program_sketch.specs.declared.sketch.StepSketch.{StepSketch}
use Rattle.program_sketch.proofs.GrammarLines.{ident_line_pieces, ident_line_right}

-- ---- the tables that a step reads

-- in one round
abbrev InOneRound : Spells (Option Number)
InOneRound = Made Some (λ round. plain (codes "round") ∷ natural round ∷ [])

-- in each round
abbrev InEachRound : Spells (Option Number)
InEachRound = Made {C = Unit {0}} (λ _. None) (λ _. [])

-- one or the other is spelled so
only_to : (o : Option Number) (pieces : List Piece) → Either InOneRound InEachRound o pieces → pieces ≡ only_pieces o
only_to o pieces (inl m) = m.as_parts ∙ ap only_pieces (sym m.made)
only_to o pieces (inr m) = m.as_parts ∙ ap only_pieces (sym m.made)

-- what is spelled so is one or the other
only_from : (o : Option Number) (pieces : List Piece) → pieces ≡ only_pieces o → Either InOneRound InEachRound o pieces
only_from None pieces e = inr (record { parts = tt; made = refl; as_parts = e })
only_from (Some round) pieces e = inl (record { parts = round; made = refl; as_parts = e })

-- the one round in which a table is read
only_right : Right (Exactly only_pieces) (Unseen (codes "round")) only
unfolding only
only_right ts = respelled only_to only_from
    (eat_right (codes "round") {one = InOneRound} {other = InEachRound} (read.natural >>= λ round. pure (Some round)) (pure None)
    (word_then (codes "round") (last_part Some (natural_right (Unseen (codes "round")))))
    (pure_made {C = Unit {0}} (λ _. None) (λ _. []) (Unseen (codes "round")) tt (λ _. refl) (λ _. refl))
    (nothing_follows (λ _. None) (Unseen (codes "round")) (Unseen (codes "round")) (λ rest stop. stop))
    ts)

-- what an input is made of
abbrev InputParts : Type 0
InputParts = Ident × (Option Number × Ident)

-- an input of its parts
abbrev made_input : InputParts → InputSketch
made_input c = record { table = c.0; only = c.1.0; map = c.1.1 }

-- a table that a step reads
pub input_right : (stops : Stops) → Right (Exactly input_pieces) stops input
unfolding input
input_right stops = exactly input_pieces (λ i. (i.table, (i.only, i.map))) (λ i. refl) (λ c. refl)
    (word_then (codes "table") (free_part {make = made_input} (ident_right Free) (λ t.
    part only_right (λ o. last_part (λ m. made_input (t, (o, m))) (ident_line_right (codes "by") stops))
    (λ o. mark_follows (λ m. made_input (t, (o, m))) (λ m. name m ∷ plain (codes ";") ∷ []) stops (codes "by") (codes "round") refl))))

-- an input is something
pub input_some : (i : InputSketch) → input_pieces i ≡ [] → ⊥
input_some i e = cc

-- where no input begins, none is read
input_refused : (ts : List Token) → sees (codes "table") ts ≡ false → input ts ≡ Err ts
unfolding input
input_refused ts e = refused_unseen (codes "table") _ ts e

-- inputs
inputs_right : Right (Exactly (flat_map input_pieces)) (Unseen (codes "table")) (read.repeated (sees (codes "table")) input [])
inputs_right = while_from_right input_pieces (sees (codes "table")) input (input_right Free) input_some input_refused

-- ---- the partition of a step

-- there is one
abbrev HasPartition : Spells (Option Ident)
HasPartition = Made Some (ident_line_pieces (codes "partition"))

-- there is none
abbrev NoPartition : Spells (Option Ident)
NoPartition = Made {C = Unit {0}} (λ _. None) (λ _. [])

-- one or none is spelled so
partition_to : (o : Option Ident) (pieces : List Piece) → Either HasPartition NoPartition o pieces → pieces ≡ partition_pieces o
partition_to o pieces (inl m) = m.as_parts ∙ ap partition_pieces (sym m.made)
partition_to o pieces (inr m) = m.as_parts ∙ ap partition_pieces (sym m.made)

-- what is spelled so is one or none
partition_from : (o : Option Ident) (pieces : List Piece) → pieces ≡ partition_pieces o → Either HasPartition NoPartition o pieces
partition_from None pieces e = inr (record { parts = tt; made = refl; as_parts = e })
partition_from (Some i) pieces e = inl (record { parts = i; made = refl; as_parts = e })

-- without its word a line is refused
line_refused : (word : List ℕ) (ts : List Token) → sees word ts ≡ false → ident_line word ts ≡ Err ts
unfolding ident_line
line_refused word ts e = refused_unseen word _ ts e

-- the partition of a step
partition_right : Right (Exactly partition_pieces) (Unseen (codes "partition")) partition
unfolding partition
partition_right ts = respelled partition_to partition_from
    (peek_right (codes "partition") {one = HasPartition} {other = NoPartition} (ident_line (codes "partition") >>= λ found. pure (Some found)) (pure None)
    (λ ts e. ap (λ o. and_then o (λ found. pure (Some found))) (line_refused (codes "partition") ts e))
    (last_part Some (ident_line_right (codes "partition") (Unseen (codes "partition"))))
    (pure_made {C = Unit {0}} (λ _. None) (λ _. []) (Unseen (codes "partition")) tt (λ _. refl) (λ _. refl))
    (nothing_follows (λ _. None) (Unseen (codes "partition")) (Unseen (codes "partition")) (λ rest stop. stop))
    ts)

-- ---- steps

-- what a step is made of behind its stream
abbrev RestParts : Type 0
RestParts = Ident × (List InputSketch × (Ident × (Option Ident × Unit {0})))

-- a step in this line of its parts
abbrev made_step : ℕ × RestParts → StepSketch
made_step c = record { line = c.0; map = c.1.0; inputs = c.1.1.0; reduce = c.1.1.1.0; partition = c.1.1.1.1.0 }

-- what stands behind the inputs of a step
abbrev after_inputs : Ident × (Option Ident × Unit {0}) → List Piece
after_inputs c = ident_line_pieces (codes "reduce") c.0 ++ (partition_pieces c.1.0 ++ plain (codes "}") ∷ [])

-- what stands behind the stream of a step
abbrev rest_pieces : RestParts → List Piece
rest_pieces c = ident_line_pieces (codes "by") c.0 ++ (flat_map input_pieces c.1.0 ++ after_inputs c.1.1)

-- that is read right
step_rest_right : (line : ℕ) (stops : Stops) → Right (Made (λ c. made_step (line, c)) rest_pieces) stops (step_rest line)
unfolding step_rest
step_rest_right line stops = free_part {make = λ (c : RestParts). made_step (line, c)} (ident_line_right (codes "by") Free) (λ map. part inputs_right
    (λ inputs. free_part (ident_line_right (codes "reduce") Free) (λ reduce. part partition_right
    (λ parted. last_word (codes "}") stops (made_step (line, (map, (inputs, (reduce, (parted, tt)))))))
    (λ parted. mark_follows (λ _. made_step (line, (map, (inputs, (reduce, (parted, tt)))))) (λ _. []) stops (codes "}") (codes "partition") refl)))
    (λ inputs. mark_follows (λ c. made_step (line, (map, (inputs, c)))) (λ c. name c.0 ∷ plain (codes ";") ∷ (partition_pieces c.1.0 ++ plain (codes "}") ∷ [])) stops (codes "reduce") (codes "table") refl))

-- a step, one place after another
step_spelled : (stream : List ℕ) (c : ℕ × RestParts) → placed (codes "step") c.0 ∷ plain (codes "{") ∷ plain stream ∷ rest_pieces c.1 ≡ step_pieces stream (made_step c)
step_spelled stream c = ap (λ pieces. placed (codes "step") c.0 ∷ plain (codes "{") ∷ plain stream ∷ ident_line_pieces (codes "by") c.1.0 ++ pieces)
    (sym (append_assoc (flat_map input_pieces c.1.1.0) (ident_line_pieces (codes "reduce") c.1.1.1.0 ++ partition_pieces c.1.1.1.1.0) (plain (codes "}") ∷ [])))

-- a step that reads this stream
pub step_right : (stream : List ℕ) (stops : Stops) → Right (Exactly (step_pieces stream)) stops (step stream)
unfolding step
step_right stream stops = exactly (step_pieces stream) (λ s. (s.line, (s.map, (s.inputs, (s.reduce, (s.partition, tt)))))) (λ s. refl) (step_spelled stream)
    (free_part {make = made_step} (expect_line_right (codes "step") Free) (λ line. word_then (codes "{") (word_then stream (step_rest_right line stops))))

-- a step is something
pub step_some : (stream : List ℕ) (s : StepSketch) → step_pieces stream s ≡ [] → ⊥
step_some stream s e = cc

-- where no step begins, none is read
step_refused : (stream : List ℕ) (ts : List Token) → sees (codes "step") ts ≡ false → step stream ts ≡ Err ts
unfolding step
step_refused stream = refused_unseen_line (codes "step") (λ line. expect (codes "{") >> (expect stream >> step_rest line))

-- steps
pub steps_right : Right (Exactly steps_pieces) (Unseen (codes "step")) steps
unfolding steps
steps_right = first_and_repeated (step_pieces (codes "prev")) (sees (codes "step")) (step (codes "prev")) (step_right (codes "prev") Free) (step_some (codes "prev")) (step_refused (codes "prev"))
    (step_pieces (codes "state")) steps_pieces (λ token fits. fits) (λ s ss. refl) (step (codes "state")) (step_right (codes "state") Free)
