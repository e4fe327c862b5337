use Rattle.std.proofs.Common.{◌≡◌, None, map, take, drop}
use Rattle.std.specs.List.{AllByRecursion}
use Rattle.std.specs.Option.{option_copied}
use Rattle.hal_base.specs.Order.{record_cmp}
use Rattle.hal_base.specs.Sorted.{Ascending}
use Rattle.group_reduce.specs.steps.Front.{least_key_of}
use Rattle.group_reduce.proofs.least_key.Given as goal

abbrev pub invariant-heads : goal.invariant-heads
invariant-heads g l =
    let rows = g.S.SortedStream.rows in
    record {
      key : least_key_of (option_copied l.least) (map rows (drop l.stream-index l.streams)) ≡ least_key_of None (map rows l.streams);
      sorted : AllByRecursion (Ascending record_cmp) (map rows (take l.stream-index l.streams));
    }
