use Rattle.std.proofs.Common.{◌≡◌, ◌+◌, ◌*◌, ◌≤◌, length, drop}
use Rattle.std.specs.List.{flat_map}
use Rattle.record_blocks.specs.Blocks.{value_bytes}
use Rattle.record_blocks.proofs.encoding.row_size.Given as goal

abbrev pub invariant-values : goal.invariant-values
invariant-values l = (l.size + length (flat_map value_bytes (drop l.value-index l.value-items)) ≡ l.initial.size + length (flat_map value_bytes l.value-items)) × (l.size ≤ 256 + 256 * l.value-index) × (length l.value-items ≤ 7)
