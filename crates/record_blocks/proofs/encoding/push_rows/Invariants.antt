use Rattle.std.proofs.Common.{◌≡◌, ◌++◌, take, drop}
use Rattle.std.specs.List.{AllByRecursion, flat_map}
use Rattle.record_blocks.specs.Blocks.{record_bytes}
use Rattle.record_blocks.specs.steps.Values.{AreValues}
use Rattle.record_blocks.proofs.encoding.push_rows.Given as goal

abbrev pub invariant-rows : goal.invariant-rows
invariant-rows l = (l.out.items ++ flat_map record_bytes (drop l.row-index l.row-items) ≡ l.initial.out.items ++ flat_map record_bytes l.row-items) × AllByRecursion AreValues (take l.row-index l.row-items)
