use Rattle.std.proofs.Common.{◌≡◌}
use Rattle.record_blocks.specs.steps.Decoders as decoders
use Rattle.record_blocks.specs.steps.Decoders.{with_front}
use Rattle.record_blocks.proofs.cursor.Cursor.rows.Given as goal

abbrev pub invariant-rows : goal.invariant-rows
invariant-rows l = with_front l.rows.items (decoders.many (decoders.row l.schema) l.left l.self) ≡ decoders.many (decoders.row l.initial.schema) l.count l.initial.self

abbrev pub decreases-rows : goal.decreases-rows
decreases-rows l = l.left
