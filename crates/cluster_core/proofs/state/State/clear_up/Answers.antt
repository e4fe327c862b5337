use Rattle.std.proofs.Common.{subst, sym}
use Rattle.replica_table.specs.Sets.{Ascend, members}
use Rattle.cluster_core.specs.Disks.{Leaves}
use Rattle.cluster_core.specs.States.{Seen}
use Rattle.cluster_core.proofs.Left.{beyond}
use Rattle.cluster_core.proofs.RoundChanges.{all_under}
use Rattle.cluster_core.proofs.state.State.clear_up.Goals as goal

pub returns-clause-disks : goal.returns-clause-disks
returns-clause-disks g c =
    let nodes = c.self.inside.schedule.nodes in
    let ascend = subst (λ ns. Ascend 0 nodes ns) (sym c.up-up.ensures.nodes) (subst (λ end. Ascend 0 end c.self.inside.table.up) c.self.invariant.nodes c.up-up.ensures.order) in
    let calls = c.clear_nodes.ensures in
    subst (λ (s : Seen). Leaves g.D.Disks s.setup.schedule.nodes c.args.disks.now c.clear_nodes.new.disks) c.self.view_is (record {
      faults_stay = calls.faults_stay;
      misses_stay = calls.misses_stay;
      damage_shown = calls.damage_shown;
      soundness_kept = calls.soundness_kept;
      others = beyond nodes (members c.up-up.result.0) (g.D.Disks.told c.args.disks.now) (g.D.Disks.told c.clear_nodes.new.disks) (all_under 0 nodes (members c.up-up.result.0) ascend) calls.others;
    })
