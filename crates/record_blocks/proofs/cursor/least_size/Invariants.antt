use Rattle.std.proofs.Common.{◌<◌, ◌≤◌, ◌+◌, ◌*◌, length}
use Rattle.record_blocks.proofs.cursor.least_size.Given as goal

abbrev pub invariant-kinds : goal.invariant-kinds
invariant-kinds l = (0 < l.size) × (l.size ≤ 8 + 8 * l.kind-index) × (length l.kind-items ≤ 7)
