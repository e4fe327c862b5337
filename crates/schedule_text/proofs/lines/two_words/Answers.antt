use Rattle.std.proofs.Common.{◌≡◌, ◌∷◌, rules}
use Rattle.schedule_text.specs.Lines.{pieces_of}
use Rattle.schedule_text.proofs.Pieces.{many}
use Rattle.schedule_text.proofs.lines.two_words.Goals as goal

pub returns-in-Some-clause-none : goal.returns-in-Some-clause-none
returns-in-Some-clause-none c =
    let left = c.in_ok-rest.field-0.now in
    let first : pieces_of c.args.line.now ≡ c.cut_piece.result.0.now ∷ pieces_of left = search rules in
    let second : pieces_of left ≡ c.cut_piece-2.result.0.now ∷ pieces_of c.in-Some.field-0.now = search rules in
    many c.args.line.now left c.in-Some.field-0.now c.cut_piece.result.0.now c.cut_piece-2.result.0.now first second
