use Rattle.std.proofs.Common.{◌≤◌}
use Rattle.name_values.specs.Values.{World}
use Rattle.valid_copies.specs.Calls.{PutStays}
use Rattle.valid_copies.specs.LastWrites.{ReadsCopies}
use Rattle.cluster_core.specs.Origins.{AreAnswers}
use Rattle.valid_copies.specs.RightCalls.{RightWork}
use Rattle.valid_copies.specs.Stands.{Stands}
use Rattle.cluster_core.proofs.PartLoops.{PartsSoFar}
use Rattle.cluster_core.proofs.parts.read_parts.Given as goal

abbrev pub invariant-parts : goal.invariant-parts
invariant-parts g l = record {
  so_far : PartsSoFar l.fn.shape l.fn.table l.fn.round (g.D.Disks.shows_damage l.initial.disks) (g.D.Disks.shows_damage l.disks) (g.D.Disks.told l.initial.disks) (g.D.Disks.told l.disks) l.part l.parts;
  faults : g.D.Disks.faults l.initial.disks ≤ g.D.Disks.faults l.disks;
  misses : g.D.Disks.misses l.initial.disks ≤ g.D.Disks.misses l.disks;
  puts : PutStays (g.D.Disks.told l.initial.disks) (g.D.Disks.told l.disks);
  asked : ReadsCopies l.fn.table.copies (g.D.Disks.told l.initial.disks) (g.D.Disks.told l.disks);
  answers : AreAnswers l.fn.shape l.parts (g.D.Disks.told l.initial.disks) (g.D.Disks.told l.disks);
  right : (w : World) → Stands w l.fn.table.copies (g.D.Disks.told l.initial.disks) → RightWork g.D.Disks w l.initial.disks l.disks (Unit {0});
  soundness : g.D.Disks.sound l.initial.disks → g.D.Disks.sound l.disks;
}
