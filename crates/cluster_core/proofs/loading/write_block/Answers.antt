use Rattle.std.proofs.Common.{◌≡◌, ◌<◌, sym, ap, subst, ◌∙◌}
use Rattle.cluster_core.proofs.DisksLeft.{leaves_by_write}
use Rattle.cluster_core.proofs.Fillings.{each_more, each_none, each_stopped, filled_one, on_err, stopped_one, until_nodes}
use Rattle.cluster_core.specs.Disks.{Leaves}
use Rattle.cluster_core.specs.Filling.{copy_of}
use Rattle.node_names.specs.declared.name.Name.TheVariants.{Blk}
use Rattle.valid_copies.specs.Writes.{write_at}
use Rattle.cluster_core.proofs.loading.write_block.Goals as goal

pub copies-init : goal.copies-init
copies-init g c = each_none g.D.Disks (copy_of c.args.schedule.now.nodes c.args.number c.args.block c.args.bytes.now) c.args.schedule.now.copies c.args.disks.now c.args.table.now

pub copies-preserved : goal.copies-preserved
copies-preserved g c =
    let same : c.copies.table.nodes ≡ c.args.schedule.now.nodes = until_nodes g.D.Disks _ _ c.args.disks.now c.copies.disks c.args.table.now c.copies.table c.copies.invariant ∙ c.requires.nodes in
    let here : c.place-node.result < c.copies.table.nodes = subst (λ n. c.place-node.result < n) (sym same) c.place-node.ensures.within in
    let left : Leaves g.D.Disks c.copies.table.nodes c.copies.disks c.write_copy.new.disks = leaves_by_write g.D.Disks c.place-node.result c.copies.table.nodes c.copies.disks c.write_copy.new.disks here c.write_copy.ensures.faults_stay c.write_copy.ensures.misses_stay c.write_copy.ensures.damage_shown c.write_copy.ensures.soundness_kept c.write_copy.ensures.others in
    each_more g.D.Disks (copy_of c.args.schedule.now.nodes c.args.number c.args.block c.args.bytes.now) c.copies.k c.args.schedule.now.copies c.args.disks.now c.copies.disks c.write_copy.new.disks c.args.table.now c.copies.table c.write_copy.new.table c.copies-test.true c.copies.invariant
    (filled_one g.D.Disks c.place-node.result (Blk c.args.number c.args.block) c.args.bytes.now _ c.copies.disks c.write_copy.new.disks c.copies.table c.write_copy.new.table
    (ap (λ node. write_at node (Blk c.args.number c.args.block) c.args.bytes.now) c.place-node.ensures.node) c.in_ok-write_copy.ensures.written c.in_ok-write_copy.ensures.valid left c.write_copy.ensures.not_missed)

pub returns-in_err-write_copy-clause-stopped : goal.returns-in_err-write_copy-clause-stopped
returns-in_err-write_copy-clause-stopped g c =
    let same : c.copies.table.nodes ≡ c.args.schedule.now.nodes = until_nodes g.D.Disks _ _ c.args.disks.now c.copies.disks c.args.table.now c.copies.table c.copies.invariant ∙ c.requires.nodes in
    let here : c.place-node.result < c.copies.table.nodes = subst (λ n. c.place-node.result < n) (sym same) c.place-node.ensures.within in
    let left : Leaves g.D.Disks c.copies.table.nodes c.copies.disks c.write_copy.new.disks = leaves_by_write g.D.Disks c.place-node.result c.copies.table.nodes c.copies.disks c.write_copy.new.disks here c.write_copy.ensures.faults_stay c.write_copy.ensures.misses_stay c.write_copy.ensures.damage_shown c.write_copy.ensures.soundness_kept c.write_copy.ensures.others in
    on_err c.from_residual.result _ (each_stopped g.D.Disks (copy_of c.args.schedule.now.nodes c.args.number c.args.block c.args.bytes.now) c.copies.k c.args.schedule.now.copies c.args.disks.now c.copies.disks c.write_copy.new.disks c.args.table.now c.copies.table c.write_copy.new.table c.copies-test.true c.copies.invariant
    (stopped_one g.D.Disks c.place-node.result (Blk c.args.number c.args.block) c.args.bytes.now _ c.copies.disks c.write_copy.new.disks c.copies.table c.write_copy.new.table
    (ap (λ node. write_at node (Blk c.args.number c.args.block) c.args.bytes.now) c.place-node.ensures.node) c.in_err-write_copy.ensures.begun c.in_err-write_copy.ensures.table_kept left c.write_copy.ensures.not_missed))
