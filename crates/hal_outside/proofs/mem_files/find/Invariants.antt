use Rattle.std.proofs.Common.{◌≡◌, ◌-◌, length, drop}
use Rattle.std.specs.FinMap as map
use Rattle.std.specs.Ordering.{nat_cmp}
use Rattle.std.specs.Cmp.Lexicographic.{slice_cmp}
use Rattle.hal_outside.proofs.mem_files.find.Given as goal

abbrev pub invariant-entries : goal.invariant-entries
invariant-entries l = map.find (slice_cmp nat_cmp) l.name (drop l.at l.written.items) ≡ map.find (slice_cmp nat_cmp) l.name l.written.items

abbrev pub decreases-entries : goal.decreases-entries
decreases-entries l = length l.written.items - l.at
