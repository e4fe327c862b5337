use Rattle.std.proofs.Common.{◌≡◌, ◌++◌, take, drop}
use Rattle.std.specs.List.{AllByRecursion, flat_map}
use Rattle.hal_base.specs.Values.{IsValue}
use Rattle.record_blocks.specs.Blocks.{value_bytes}
use Rattle.record_blocks.proofs.encoding.push_fields.Given as goal

abbrev pub invariant-values : goal.invariant-values
invariant-values l = (l.out.items ++ flat_map value_bytes (drop l.value-index l.value-items) ≡ l.initial.out.items ++ flat_map value_bytes l.value-items) × AllByRecursion IsValue (take l.value-index l.value-items)
