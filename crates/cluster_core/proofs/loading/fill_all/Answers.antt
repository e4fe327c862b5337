use Rattle.std.proofs.Common.{map, sym, subst}
use Rattle.hal_outside.specs.DiskCalls.{Wipe}
use Rattle.run_model.specs.Lists.{below}
use Rattle.valid_copies.specs.Stands.{Stands}
use Rattle.valid_copies.specs.Writes.{write_of}
use Rattle.cluster_core.proofs.DisksLeft.{leaves_more}
use Rattle.cluster_core.proofs.Fillings.{on_err}
use Rattle.cluster_core.proofs.LoadCalls.{some_first, some_then, some_writes}
use Rattle.cluster_core.proofs.LoadTexts.{none_stand}
use Rattle.cluster_core.specs.Disks.{Leaves}
use Rattle.cluster_core.specs.Filling.{load_files}
use Rattle.cluster_core.specs.Loading.{setup_of}
use Rattle.valid_copies.proofs.Digests.{none_agree}
use Rattle.valid_copies.proofs.WrittenCalls.{wrote_keep}
use Rattle.valid_copies.specs.LastWrites.{DigestsAgree}
use Rattle.cluster_core.proofs.loading.fill_all.Goals as goal

pub returns-in_err-wipe_all-clause-begun : goal.returns-in_err-wipe_all-clause-begun
returns-in_err-wipe_all-clause-begun g c =
    on_err c.from_residual-in_err-wipe_all.result _ (some_first (map Wipe (below c.args.given.now.schedule.now.nodes)) (map write_of (load_files (setup_of c.args.given.now.shape.now c.args.given.now.schedule.now) c.args.given.now.tables.now)) (g.D.Disks.told c.args.disks.now) (g.D.Disks.told c.wipe_all.new.disks) c.in_err-wipe_all.ensures.begun)

pub returns-in_err-write_tables-clause-begun : goal.returns-in_err-write_tables-clause-begun
returns-in_err-write_tables-clause-begun g c =
    on_err c.from_residual-in_err-write_tables.result _ (some_then (map Wipe (below c.args.given.now.schedule.now.nodes)) (map write_of (load_files (setup_of c.args.given.now.shape.now c.args.given.now.schedule.now) c.args.given.now.tables.now)) (g.D.Disks.told c.args.disks.now) (g.D.Disks.told c.wipe_all.new.disks) (g.D.Disks.told c.write_tables.new.disks)
    c.in_ok-wipe_all.ensures.wiped (some_writes (load_files (setup_of c.args.given.now.shape.now c.args.given.now.schedule.now) c.args.given.now.tables.now) (g.D.Disks.told c.wipe_all.new.disks) (g.D.Disks.told c.write_tables.new.disks) c.in_ok-table.table c.write_tables.new.table c.in_err-write_tables.ensures.stopped.wrote))

pub returns-in_err-write_tables-clause-disks : goal.returns-in_err-write_tables-clause-disks
returns-in_err-write_tables-clause-disks g c =
    leaves_more g.D.Disks c.args.given.now.schedule.now.nodes c.args.disks.now c.wipe_all.new.disks c.write_tables.new.disks c.wipe_all.ensures.disks
    (subst (λ nodes. Leaves g.D.Disks nodes c.wipe_all.new.disks c.write_tables.new.disks) c.in_ok-table.ensures.nodes c.in_err-write_tables.ensures.stopped.disks)

pub returns-clause-disks : goal.returns-clause-disks
returns-clause-disks g c =
    leaves_more g.D.Disks c.args.given.now.schedule.now.nodes c.args.disks.now c.wipe_all.new.disks c.write_tables.new.disks c.wipe_all.ensures.disks
    (subst (λ nodes. Leaves g.D.Disks nodes c.wipe_all.new.disks c.write_tables.new.disks) c.in_ok-table.ensures.nodes c.in_ok-write_tables.ensures.filled.disks)

pub returns-clause-valid : goal.returns-clause-valid
returns-clause-valid g c = λ w texts. c.in_ok-write_tables.ensures.filled.valid w texts (subst (λ copies. Stands w copies (g.D.Disks.told c.wipe_all.new.disks)) (sym c.in_ok-table.ensures.copies) (none_stand w (g.D.Disks.told c.wipe_all.new.disks)))

pub returns-clause-agree : goal.returns-clause-agree
returns-clause-agree g c =
    wrote_keep (g.D.Disks.told c.wipe_all.new.disks) (g.D.Disks.told c.write_tables.new.disks) c.in_ok-table.table c.write_tables.new.table (load_files (setup_of c.args.given.now.shape.now c.args.given.now.schedule.now) c.args.given.now.tables.now) c.in_ok-write_tables.ensures.filled.wrote
    (subst (λ copies. DigestsAgree copies (g.D.Disks.told c.wipe_all.new.disks)) (sym c.in_ok-table.ensures.copies) (none_agree (g.D.Disks.told c.wipe_all.new.disks)))
