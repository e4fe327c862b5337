use Rattle.valid_copies.proofs.Steady.{Steady}
use Rattle.valid_copies.proofs.Written.{WritingSoFar, rest_between}
use Rattle.valid_copies.specs.steps.Further.{nodes_between}
use Rattle.valid_copies.proofs.writing.write_between.Given as goal

abbrev pub invariant-nodes : goal.invariant-nodes
invariant-nodes g l = record {
  so_far : WritingSoFar (g.D.Disks.told l.initial.disks) l.initial.table l.fn.further (nodes_between l.fn.further l.fn.from l.fn.to l.fn.most) l.fn.most l.left (rest_between l.fn.further l.node l.fn.to) l.table (g.D.Disks.told l.disks);
  steady : Steady (g.D.Disks.faults l.initial.disks) (g.D.Disks.faults l.disks) (g.D.Disks.misses l.initial.disks) (g.D.Disks.misses l.disks) (g.D.Disks.told l.initial.disks) (g.D.Disks.told l.disks) (g.D.Disks.shows_damage l.initial.disks) (g.D.Disks.shows_damage l.disks) (g.D.Disks.sound l.initial.disks) (g.D.Disks.sound l.disks);
}
