use Rattle.std.proofs.Common.{◌≡◌, ◌++◌, take, drop}
use Rattle.std.specs.Cmp.Lexicographic.{slice_cmp}
use Rattle.hal_base.specs.Order.{value_cmp}
use Rattle.hal_base.specs.Sorted.{placed}
use Rattle.plain_job.proofs.insertion.place_of.Given as goal

abbrev pub invariant-others : goal.invariant-others
invariant-others l = placed (slice_cmp value_cmp) l.fields l.group ≡ take l.at l.group ++ placed (slice_cmp value_cmp) l.fields (drop l.at l.group)
