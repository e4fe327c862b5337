use Rattle.std.proofs.Common.{◌≡◌, length}
use Rattle.schedule_text.specs.Lines.{first_of, pieces_of}
use Rattle.schedule_text.proofs.lines.behind_spaces.Given as goal

abbrev pub invariant-spaces : goal.invariant-spaces
invariant-spaces l = first_of (pieces_of l.left) ≡ first_of (pieces_of l.line)

abbrev pub decreases-spaces : goal.decreases-spaces
decreases-spaces l = length l.left
