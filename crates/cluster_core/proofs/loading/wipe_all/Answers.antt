use Rattle.std.proofs.Common.{arith}
use Rattle.valid_copies.proofs.Coming.{done_added, not_done_added}
use Rattle.cluster_core.proofs.DisksLeft.{leaves_by_wipe, leaves_more, not_missed_more}
use Rattle.cluster_core.proofs.Wiping.{wiped_more, wipes_begun}
use Rattle.hal_outside.specs.DiskCalls.{Wipe}
use Rattle.cluster_core.specs.Disks.{Leaves}
use Rattle.cluster_core.proofs.loading.wipe_all.Goals as goal

pub returns-in-Err-Device-clause-begun : goal.returns-in-Err-Device-clause-begun
returns-in-Err-Device-clause-begun g c = wipes_begun c.nodes.node c.args.nodes _ (g.D.Disks.told c.nodes.disks) _ c.nodes-test.true c.nodes.invariant.added (not_done_added (Wipe c.nodes.node) _ _ c.in-Err-Device.ensures.failed)

pub returns-in-Err-Device-clause-disks : goal.returns-in-Err-Device-clause-disks
returns-in-Err-Device-clause-disks g c =
    leaves_more g.D.Disks c.args.nodes c.args.disks.now c.nodes.disks c.wipe.new.self c.nodes.invariant.left
    (leaves_by_wipe g.D.Disks c.wipe.result c.nodes.node c.args.nodes c.nodes.disks c.wipe.new.self c.nodes-test.true c.wipe.ensures.faults_stay c.wipe.ensures.misses_stay c.wipe.ensures.damage_shown c.wipe.ensures.soundness_kept c.wipe.ensures.done c.wipe.ensures.failed)

pub returns-in-Err-Memory-clause-begun : goal.returns-in-Err-Memory-clause-begun
returns-in-Err-Memory-clause-begun g c = wipes_begun c.nodes.node c.args.nodes _ (g.D.Disks.told c.nodes.disks) _ c.nodes-test.true c.nodes.invariant.added (not_done_added (Wipe c.nodes.node) _ _ c.in-Err-Memory.ensures.failed)

pub returns-in-Err-Memory-clause-disks : goal.returns-in-Err-Memory-clause-disks
returns-in-Err-Memory-clause-disks g c =
    leaves_more g.D.Disks c.args.nodes c.args.disks.now c.nodes.disks c.wipe.new.self c.nodes.invariant.left
    (leaves_by_wipe g.D.Disks c.wipe.result c.nodes.node c.args.nodes c.nodes.disks c.wipe.new.self c.nodes-test.true c.wipe.ensures.faults_stay c.wipe.ensures.misses_stay c.wipe.ensures.damage_shown c.wipe.ensures.soundness_kept c.wipe.ensures.done c.wipe.ensures.failed)

pub nodes-preserved : goal.nodes-preserved
nodes-preserved g c =
    let left : Leaves g.D.Disks c.args.nodes c.nodes.disks c.wipe.new.self = leaves_by_wipe g.D.Disks c.wipe.result c.nodes.node c.args.nodes c.nodes.disks c.wipe.new.self c.nodes-test.true c.wipe.ensures.faults_stay c.wipe.ensures.misses_stay c.wipe.ensures.damage_shown c.wipe.ensures.soundness_kept c.wipe.ensures.done c.wipe.ensures.failed in
    record {
      within = omega (arith, c.nodes-test.true);
      added = wiped_more c.nodes.node _ (g.D.Disks.told c.nodes.disks) _ c.nodes.invariant.added (done_added (Wipe c.nodes.node) _ _ c.in-Ok.ensures.done);
      left = leaves_more g.D.Disks c.args.nodes c.args.disks.now c.nodes.disks c.wipe.new.self c.nodes.invariant.left left;
      not_missed = not_missed_more g.D.Disks c.args.nodes c.args.disks.now c.nodes.disks c.wipe.new.self c.nodes.invariant.left c.nodes.invariant.not_missed c.wipe.ensures.not_missed;
    }
