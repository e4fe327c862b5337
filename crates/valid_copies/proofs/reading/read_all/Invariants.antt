use Rattle.std.proofs.Common.{◌≤◌, length}
use Rattle.std.specs.List.{AllByRecursion}
use Rattle.valid_copies.proofs.Coming.{SoFar}
use Rattle.valid_copies.specs.Calls.{PutStays}
use Rattle.name_values.specs.Values.{World}
use Rattle.valid_copies.specs.LastWrites.{ReadsCopies}
use Rattle.valid_copies.specs.Readings.{IsFile}
use Rattle.valid_copies.specs.RightCalls.{RightWork}
use Rattle.valid_copies.specs.Stands.{Stands}
use Rattle.valid_copies.proofs.reading.read_all.Given as goal

abbrev pub invariant-names : goal.invariant-names
invariant-names g l = record {
  so_far : SoFar l.fn.desk (g.D.Disks.shows_damage l.initial.disks) (g.D.Disks.shows_damage l.disks) (g.D.Disks.sound l.initial.disks) (g.D.Disks.sound l.disks) (g.D.Disks.told l.initial.disks) (g.D.Disks.told l.disks) l.fn.names l.rest l.initial.files.items l.files.items l.lists;
  faults : g.D.Disks.faults l.initial.disks ≤ g.D.Disks.faults l.disks;
  misses : g.D.Disks.misses l.initial.disks ≤ g.D.Disks.misses l.disks;
  puts : PutStays (g.D.Disks.told l.initial.disks) (g.D.Disks.told l.disks);
  all_files : AllByRecursion IsFile l.rest;
  asked : ReadsCopies l.fn.desk.table.copies (g.D.Disks.told l.initial.disks) (g.D.Disks.told l.disks);
  right : (w : World) → Stands w l.fn.desk.table.copies (g.D.Disks.told l.initial.disks) → RightWork g.D.Disks w l.initial.disks l.disks (Unit {0});
}

abbrev pub decreases-names : goal.decreases-names
decreases-names g l = length l.rest
