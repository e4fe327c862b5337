use Rattle.std.proofs.Common.{◌≡◌, ◌≤◌, IsSome, map}
use Rattle.hal_outside.specs.DiskCalls.{Wipe}
use Rattle.run_model.specs.Lists.{below}
use Rattle.valid_copies.specs.Calls.{Added}
use Rattle.cluster_core.specs.Disks.{Leaves}
use Rattle.cluster_core.proofs.loading.wipe_all.Given as goal

abbrev pub invariant-nodes : goal.invariant-nodes
invariant-nodes g l = record {
  within : l.node ≤ l.nodes;
  added : Added (g.D.Disks.told l.initial.disks) (map Wipe (below l.node)) (g.D.Disks.told l.disks);
  left : Leaves g.D.Disks l.nodes l.initial.disks l.disks;
  not_missed : IsSome (g.D.Disks.told l.initial.disks) → g.D.Disks.misses l.disks ≡ g.D.Disks.misses l.initial.disks;
}
