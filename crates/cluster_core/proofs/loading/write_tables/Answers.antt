use Rattle.std.proofs.Common.{subst}
use Rattle.std.specs.List.{flat_map}
use Rattle.run_model.specs.Lists.{below}
use Rattle.cluster_core.proofs.Fillings.{all_more, all_none, all_stopped, on_err}
use Rattle.cluster_core.specs.Filling.{FilledSome, table_files}
use Rattle.cluster_core.specs.Loading.{setup_of}
use Rattle.cluster_core.proofs.loading.write_tables.Goals as goal

pub tables-init : goal.tables-init
tables-init g c = all_none g.D.Disks (table_files (setup_of c.args.given.now.shape.now c.args.given.now.schedule.now) c.args.given.now.tables.now) c.len-number-end.result c.args.disks.now c.args.table.now

pub tables-preserved : goal.tables-preserved
tables-preserved g c =
    all_more g.D.Disks (table_files (setup_of c.args.given.now.shape.now c.args.given.now.schedule.now) c.args.given.now.tables.now) c.tables.number c.len-number-end.result c.args.disks.now c.tables.disks c.write_table.new.disks c.args.table.now c.tables.table c.write_table.new.table
    c.tables-test.true c.tables.invariant c.in_ok-write_table.ensures.filled

pub returns-in_err-write_table-clause-stopped : goal.returns-in_err-write_table-clause-stopped
returns-in_err-write_table-clause-stopped g c =
    on_err c.from_residual.result _ (subst (λ n. FilledSome g.D.Disks (flat_map (table_files (setup_of c.args.given.now.shape.now c.args.given.now.schedule.now) c.args.given.now.tables.now) (below n)) c.args.disks.now c.args.table.now c.write_table.new.table c.write_table.new.disks) c.len-number-end.ensures
    (all_stopped g.D.Disks (table_files (setup_of c.args.given.now.shape.now c.args.given.now.schedule.now) c.args.given.now.tables.now) c.tables.number c.len-number-end.result c.args.disks.now c.tables.disks c.write_table.new.disks c.args.table.now c.tables.table c.write_table.new.table
    c.tables-test.true c.tables.invariant c.in_err-write_table.ensures.stopped))
