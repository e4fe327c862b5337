use Rattle.std.proofs.Common.{length}
use Rattle.std.specs.List.{AllByRecursion}
use Rattle.name_values.specs.Values.{World}
use Rattle.copy_reads.specs.Keeping.{Keeps}
use Rattle.valid_copies.specs.Readings.{IsFile}
use Rattle.valid_copies.specs.RightCalls.{RightWork}
use Rattle.valid_copies.specs.Stands.{Stands}
use Rattle.copy_reads.proofs.PartLoops.{PartsSoFar}
use Rattle.copy_reads.proofs.books.Books.read_parts.Given as goal

abbrev pub invariant-names : goal.invariant-names
invariant-names g l = record {
  so_far : PartsSoFar l.fn.shape (g.D.Disks.shows_damage l.initial.disks) l.initial.self l.self l.fn.names l.rest (g.D.Disks.told l.initial.disks) (g.D.Disks.told l.disks) l.lists;
  keeps : Keeps g.D.Disks l.initial.self l.self l.initial.disks l.disks;
  all_files : AllByRecursion IsFile l.rest;
  right : (w : World) → Stands w l.initial.self.table.copies (g.D.Disks.told l.initial.disks) → RightWork g.D.Disks w l.initial.disks l.disks (Unit {0});
}

abbrev pub decreases-names : goal.decreases-names
decreases-names g l = length l.rest
