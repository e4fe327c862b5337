use Rattle.std.proofs.Common.{◌≡◌, ◌++◌, take, drop}
use Rattle.hal_base.specs.Order.{value_cmp}
use Rattle.hal_base.specs.Sorted.{joined}
use Rattle.plain_job.proofs.insertion.free_place.Given as goal

abbrev pub invariant-others : goal.invariant-others
invariant-others l = joined value_cmp l.key l.keys ≡ take l.at l.keys ++ joined value_cmp l.key (drop l.at l.keys)
