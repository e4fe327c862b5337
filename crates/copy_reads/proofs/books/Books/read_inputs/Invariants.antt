use Rattle.std.proofs.Common.{length}
use Rattle.std.specs.List.{AllByRecursion}
use Rattle.name_values.specs.Values.{World}
use Rattle.copy_reads.specs.Keeping.{Keeps}
use Rattle.valid_copies.specs.Inputs.{names_in}
use Rattle.valid_copies.specs.Readings.{IsFile}
use Rattle.valid_copies.specs.RightCalls.{RightWork}
use Rattle.valid_copies.specs.Stands.{Stands}
use Rattle.copy_reads.proofs.InputLoops.{InputsSoFar}
use Rattle.copy_reads.proofs.books.Books.read_inputs.Given as goal

abbrev pub invariant-inputs : goal.invariant-inputs
invariant-inputs g l = record {
  so_far : InputsSoFar l.fn.shape (g.D.Disks.shows_damage l.initial.disks) l.fn.own l.fn.part l.initial.self l.self (names_in l.fn.inputs) (names_in l.rest) (g.D.Disks.told l.initial.disks) (g.D.Disks.told l.disks) l.initial.files.items l.files.items l.lists.items;
  keeps : Keeps g.D.Disks l.initial.self l.self l.initial.disks l.disks;
  all_files : AllByRecursion (AllByRecursion IsFile) (names_in l.rest);
  right : (w : World) → Stands w l.initial.self.table.copies (g.D.Disks.told l.initial.disks) → RightWork g.D.Disks w l.initial.disks l.disks (Unit {0});
}

abbrev pub decreases-inputs : goal.decreases-inputs
decreases-inputs g l = length l.rest
