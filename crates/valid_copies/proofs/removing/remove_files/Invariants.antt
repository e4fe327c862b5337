use Rattle.std.proofs.Common.{length}
use Rattle.valid_copies.proofs.Removals.{RemovedSoFar}
use Rattle.valid_copies.proofs.Steady.{Steady}
use Rattle.valid_copies.proofs.removing.remove_files.Given as goal

abbrev pub invariant-files : goal.invariant-files
invariant-files g l = record {
  so_far : RemovedSoFar (g.D.Disks.told l.initial.disks) l.fn.files l.rest (g.D.Disks.told l.disks);
  steady : Steady (g.D.Disks.faults l.initial.disks) (g.D.Disks.faults l.disks) (g.D.Disks.misses l.initial.disks) (g.D.Disks.misses l.disks) (g.D.Disks.told l.initial.disks) (g.D.Disks.told l.disks) (g.D.Disks.shows_damage l.initial.disks) (g.D.Disks.shows_damage l.disks) (g.D.Disks.sound l.initial.disks) (g.D.Disks.sound l.disks);
}

abbrev pub decreases-files : goal.decreases-files
decreases-files g l = length l.rest
