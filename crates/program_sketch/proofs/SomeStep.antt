-- A program has a step.
use Rattle.std.proofs.Common.{◌≤◌, ℕ, List, [], ◌∷◌, ◌++◌, length, arith, codes}
use Rattle.program_tokens.specs.declared.token.Token.{Token}
use Rattle.program_tokens.specs.Pieces.{Piece, Stand, plain, name, end}
use Rattle.function_language.specs.Spelled.{functions_pieces}
use Rattle.program_tokens.proofs.Sequences.{cut_tokens}
use Rattle.program_sketch.specs.Programs.{IsProgramText}
use Rattle.program_sketch.specs.Spelled.{head_pieces, steps_pieces, tables_pieces}
use Rattle.program_sketch.specs.declared.sketch.Sketch.{Sketch}
use Rattle.program_sketch.specs.declared.sketch.StepSketch.{StepSketch}
use Rattle.program_sketch.proofs.GrammarPrograms.{inner_pieces}

behind_first : (piece : Piece) (pieces : List Piece) (tokens : List Token) → Stand (piece ∷ pieces) tokens → (rest : List Token) × Stand pieces rest
behind_first piece pieces [] s = absurd s
behind_first piece pieces (token ∷ tokens) s = (tokens, s.1)

one_step : (steps : List StepSketch) (tokens : List Token) → Stand (steps_pieces steps) tokens → 1 ≤ length steps
one_step [] [] s = absurd s
one_step [] (token ∷ tokens) s = absurd s.0
one_step (step ∷ steps) tokens s = omega arith

-- the program of a text has a step
pub has_a_step : (text : List ℕ) (sketch : Sketch) → IsProgramText text sketch → 1 ≤ length sketch.steps
has_a_step text sketch p =
    let steps = steps_pieces sketch.steps in
    let inner = cut_tokens (inner_pieces sketch) (end ∷ []) p.1.tokens p.1.stand in
    let begin = cut_tokens (head_pieces sketch ++ tables_pieces sketch.tables ++ functions_pieces sketch.functions) (plain (codes "begin") ∷ name sketch.start ∷ plain (codes ";") ∷ steps) inner.front inner.stands_front in
    let named = behind_first (plain (codes "begin")) (name sketch.start ∷ plain (codes ";") ∷ steps) begin.back begin.stands_back in
    let mark = behind_first (name sketch.start) (plain (codes ";") ∷ steps) named.0 named.1 in
    let last = behind_first (plain (codes ";")) steps mark.0 mark.1 in
    one_step sketch.steps last.0 last.1
