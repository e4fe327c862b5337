use Rattle.std.proofs.Common.{◌≡◌, ◌++◌, map, drop}
use Rattle.record_blocks.specs.Blocks.{kind_byte}
use Rattle.record_blocks.proofs.encoding.push_head.Given as goal

abbrev pub invariant-kinds : goal.invariant-kinds
invariant-kinds l = l.out.items ++ map kind_byte (drop l.kind-index l.kind-items) ≡ l.initial.out.items ++ map kind_byte l.kind-items
