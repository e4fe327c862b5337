use Rattle.std.proofs.Common.{◌≡◌, ◌≤◌, drop, length}
use Rattle.hal_base.specs.Order.{value_cmp}
use Rattle.hal_base.specs.Sorted.{distinct}
use Rattle.plain_job.proofs.plain.distinct_keys.Given as goal

abbrev pub invariant-keys : goal.invariant-keys
invariant-keys l = record {
  within : l.at ≤ length l.all;
  found : l.found.items ≡ distinct value_cmp (drop l.at l.all);
}

abbrev pub decreases-keys : goal.decreases-keys
decreases-keys l = l.at
