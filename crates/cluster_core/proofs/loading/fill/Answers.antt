use Rattle.std.proofs.lemmas.Result.{IfOk-weaker}
use Rattle.std.specs.List.{AllByRecursion}
use Rattle.name_values.specs.Values.{World}
use Rattle.replica_table.specs.Copies.{Replicas}
use Rattle.valid_copies.specs.Stands.{Stands}
use Rattle.cluster_core.proofs.LoadCalls.{answered_follows, any_texts, is_loaded, stopped_begun}
use Rattle.cluster_core.proofs.LoadTexts.{have_texts}
use Rattle.cluster_core.specs.Filling.{CanLoad, HasItsText, load_files}
use Rattle.cluster_core.specs.Loading.{IsOver, setup_of}
use Rattle.cluster_core.proofs.loading.fill.Goals as goal

pub returns-clause-followed : goal.returns-clause-followed
returns-clause-followed g c = answered_follows c.fill_all.result (setup_of c.args.shape.now c.args.schedule.now) c.args.tables.now (g.D.Disks.told c.args.disks.now) (g.D.Disks.told c.fill_all.new.disks) c.fill_all.ensures.added

pub returns-clause-begun : goal.returns-clause-begun
returns-clause-begun g c = stopped_begun c.fill_all.result (setup_of c.args.shape.now c.args.schedule.now) c.args.tables.now (g.D.Disks.told c.args.disks.now) (g.D.Disks.told c.fill_all.new.disks) c.fill_all.ensures.begun

pub returns-clause-table : goal.returns-clause-table
returns-clause-table g c = IfOk-weaker c.fill_all.result _ _ (λ table e. is_loaded (setup_of c.args.shape.now c.args.schedule.now) c.args.tables.now table e) c.fill_all.ensures.table

pub returns-clause-stands : goal.returns-clause-stands
returns-clause-stands g c =
    let can : CanLoad c.args.shape.now c.args.schedule.now c.args.tables.now = record { counted = c.requires.counted; limits = c.requires.limits; fit = c.requires.fit } in
    IfOk-weaker c.fill_all.result
    (λ (table : Replicas). (w : World) → AllByRecursion (HasItsText w) (load_files (setup_of c.args.shape.now c.args.schedule.now) c.args.tables.now) → Stands w table.copies (g.D.Disks.told c.fill_all.new.disks))
    (λ (table : Replicas). (w : World) → IsOver c.args.shape.now c.args.tables.now c.args.schedule.now.block w → Stands w table.copies (g.D.Disks.told c.fill_all.new.disks))
    (λ table valid w over. valid w (have_texts w c.args.shape.now c.args.schedule.now c.args.tables.now can over)) c.fill_all.ensures.valid

pub returns-clause-texts : goal.returns-clause-texts
returns-clause-texts g c = λ w over.
    let can : CanLoad c.args.shape.now c.args.schedule.now c.args.tables.now = record { counted = c.requires.counted; limits = c.requires.limits; fit = c.requires.fit } in
    any_texts c.fill_all.result w (setup_of c.args.shape.now c.args.schedule.now) c.args.tables.now (g.D.Disks.told c.args.disks.now) (g.D.Disks.told c.fill_all.new.disks) (have_texts w c.args.shape.now c.args.schedule.now c.args.tables.now can over) c.fill_all.ensures.added c.fill_all.ensures.begun
