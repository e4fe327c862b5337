use Rattle.std.proofs.Common.{◌-◌}
use Rattle.name_values.specs.Values.{World}
use Rattle.valid_copies.specs.RightCalls.{RightWork}
use Rattle.valid_copies.specs.Stands.{Stands}
use Rattle.copy_reads.specs.Keeping.{Keeps}
use Rattle.copy_reads.specs.Readers.{tries_by}
use Rattle.copy_reads.proofs.Tries.{TriesSoFar}
use Rattle.copy_reads.proofs.books.Books.read_need.Given as goal

abbrev pub invariant-tries : goal.invariant-tries
invariant-tries g l = record {
  so_far : TriesSoFar (tries_by l.fn.reader l.fn.name) l.initial.self l.self (g.D.Disks.told l.initial.disks) (g.D.Disks.told l.disks);
  keeps : Keeps g.D.Disks l.initial.self l.self l.initial.disks l.disks;
  right : (w : World) → Stands w l.initial.self.table.copies (g.D.Disks.told l.initial.disks) → RightWork g.D.Disks w l.initial.disks l.disks (Unit {0});
}

-- each miss brings the run nearer to the one that ends it
abbrev pub decreases-tries : goal.decreases-tries
decreases-tries g l = 1000 - l.self.misses
