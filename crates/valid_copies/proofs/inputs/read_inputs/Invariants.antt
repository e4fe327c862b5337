use Rattle.std.proofs.Common.{◌≤◌, length}
use Rattle.std.specs.List.{AllByRecursion}
use Rattle.valid_copies.proofs.InputReads.{InputsSoFar}
use Rattle.valid_copies.specs.Inputs.{names_in}
use Rattle.valid_copies.specs.Calls.{PutStays}
use Rattle.name_values.specs.Values.{World}
use Rattle.valid_copies.specs.LastWrites.{ReadsCopies}
use Rattle.valid_copies.specs.Readings.{IsFile}
use Rattle.valid_copies.specs.RightCalls.{RightWork}
use Rattle.valid_copies.specs.Stands.{Stands}
use Rattle.valid_copies.proofs.inputs.read_inputs.Given as goal

abbrev pub invariant-inputs : goal.invariant-inputs
invariant-inputs g l = record {
  so_far : InputsSoFar l.fn.desk (g.D.Disks.shows_damage l.initial.disks) (g.D.Disks.shows_damage l.disks) (g.D.Disks.sound l.initial.disks) (g.D.Disks.sound l.disks) (g.D.Disks.told l.initial.disks) (g.D.Disks.told l.disks) (names_in l.fn.inputs) (names_in l.rest) l.initial.files.items l.files.items l.lists.items;
  faults : g.D.Disks.faults l.initial.disks ≤ g.D.Disks.faults l.disks;
  misses : g.D.Disks.misses l.initial.disks ≤ g.D.Disks.misses l.disks;
  puts : PutStays (g.D.Disks.told l.initial.disks) (g.D.Disks.told l.disks);
  all_files : AllByRecursion (AllByRecursion IsFile) (names_in l.rest);
  asked : ReadsCopies l.fn.desk.table.copies (g.D.Disks.told l.initial.disks) (g.D.Disks.told l.disks);
  right : (w : World) → Stands w l.fn.desk.table.copies (g.D.Disks.told l.initial.disks) → RightWork g.D.Disks w l.initial.disks l.disks (Unit {0});
}

abbrev pub decreases-inputs : goal.decreases-inputs
decreases-inputs g l = length l.rest
