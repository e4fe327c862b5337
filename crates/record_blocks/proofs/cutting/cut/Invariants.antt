use Rattle.std.proofs.Common.{List, ◌++◌, length}
use Rattle.hal_base.specs.declared.record.Record.{Record}
use Rattle.record_blocks.specs.Pieces.{AreCut}
use Rattle.record_blocks.proofs.cutting.cut.Given as goal

-- the pieces so far, and those that what is left is cut into, are those of the whole
abbrev pub invariant-pieces : goal.invariant-pieces
invariant-pieces l = (others : List (List Record)) → AreCut l.most l.left others → AreCut l.most l.initial.left (l.pieces ++ others)

abbrev pub decreases-pieces : goal.decreases-pieces
decreases-pieces l = length l.left
