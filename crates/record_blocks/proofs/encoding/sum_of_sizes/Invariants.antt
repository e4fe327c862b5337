use Rattle.std.proofs.Common.{◌≡◌, ◌+◌, ◌-◌, ◌^◌, ◌≤◌, min, length, drop}
use Rattle.std.specs.List.{flat_map}
use Rattle.record_blocks.specs.Blocks.{record_bytes}
use Rattle.record_blocks.proofs.encoding.sum_of_sizes.Given as goal

abbrev pub invariant-rows : goal.invariant-rows
invariant-rows l = record {
  whole : min (l.size + length (flat_map record_bytes (drop l.row-index l.row-items))) (2 ^ 64 - 1) ≡ min (length (flat_map record_bytes l.row-items)) (2 ^ 64 - 1);
  fits : l.size ≤ 2 ^ 64 - 1;
}
