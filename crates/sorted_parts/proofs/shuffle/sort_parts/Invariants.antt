use Rattle.std.proofs.Common.{◌≡◌, ◌++◌, map}
use Rattle.hal_base.specs.Order.{record_cmp}
use Rattle.hal_base.specs.Sorted.{sorted}
use Rattle.sorted_parts.proofs.shuffle.sort_parts.Given as goal

abbrev pub invariant-parts : goal.invariant-parts
invariant-parts l = l.out ++ map (sorted record_cmp) l.rows-iterator.rest.items ≡ map (sorted record_cmp) l.fn.parts.items
