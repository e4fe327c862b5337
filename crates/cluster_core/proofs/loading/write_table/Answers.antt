use Rattle.std.proofs.Common.{◌≡◌, ◌<◌, ◌*◌, sym, ap, subst, ◌∙◌, slice_index_or, take, drop}
use Rattle.std.specs.List.{flat_map}
use Rattle.run_model.specs.Lists.{below}
use Rattle.plain_job.proofs.Tables.{table_there}
use Rattle.plain_job.specs.Fit.{AreRecordsOf}
use Rattle.record_blocks.specs.Blocks.{block_text}
use Rattle.cluster_core.proofs.Fillings.{all_more, all_none, all_stopped, on_err}
use Rattle.cluster_core.proofs.Fitting.{as_many, block_is, table_fits}
use Rattle.cluster_core.specs.Filling.{Filled, FilledSome, block_files}
use Rattle.cluster_core.specs.Loading.{setup_of}
use Rattle.cluster_core.proofs.loading.write_table.Goals as goal

pub table_of-rows-requires : goal.table_of-rows-requires
table_of-rows-requires g c = subst (λ n. c.args.number < n) (sym (as_many c.args.given.now.shape.now.tables c.args.given.now.tables.now c.requires.can.fit)) c.requires.there

pub pieces-init : goal.pieces-init
pieces-init g c = all_none g.D.Disks (block_files (setup_of c.args.given.now.shape.now c.args.given.now.schedule.now) c.args.given.now.tables.now c.args.number) (slice_index_or c.as_slice.result.now c.args.number 0) c.args.disks.now c.args.table.now

pub text_of_block-requires : goal.text_of_block-requires
text_of_block-requires g c =
    subst (λ rows. AreRecordsOf c.schema_of-schema.result.now rows) (sym (c.as_slice-in-pieces.ensures ∙ table_there c.args.given.now.tables.now c.args.number c.table_of-rows.result.now c.table_of-rows.ensures))
    (table_fits c.args.given.now.shape.now.tables c.args.given.now.tables.now c.args.number c.schema_of-schema.result.now c.requires.can.fit c.schema_of-schema.ensures)

pub pieces-preserved : goal.pieces-preserved
pieces-preserved g c =
    let text : c.as_slice-in-pieces-2.result.now ≡ block_text c.schema_of-schema.result.now (take c.args.given.now.schedule.now.block (drop (c.pieces.block * c.args.given.now.schedule.now.block) c.table_of-rows.result.now)) =
    c.as_slice-in-pieces-2.ensures.value ∙ c.in_ok-bytes.ensures ∙ ap (λ rows. block_text c.schema_of-schema.result.now (take c.args.given.now.schedule.now.block (drop (c.pieces.block * c.args.given.now.schedule.now.block) rows))) c.as_slice-in-pieces.ensures in
    let files = block_is (setup_of c.args.given.now.shape.now c.args.given.now.schedule.now) c.args.given.now.tables.now c.args.number c.pieces.block c.schema_of-schema.result.now c.table_of-rows.result.now c.as_slice-in-pieces-2.result.now c.schema_of-schema.ensures c.table_of-rows.ensures text in
    all_more g.D.Disks (block_files (setup_of c.args.given.now.shape.now c.args.given.now.schedule.now) c.args.given.now.tables.now c.args.number) c.pieces.block (slice_index_or c.as_slice.result.now c.args.number 0) c.args.disks.now c.pieces.disks c.write_block.new.disks c.args.table.now c.pieces.table c.write_block.new.table
    c.pieces-test.true c.pieces.invariant (subst (λ these. Filled g.D.Disks these c.pieces.disks c.pieces.table c.write_block.new.table c.write_block.new.disks) files c.in_ok-write_block.ensures.filled)

pub returns-in_err-write_block-clause-stopped : goal.returns-in_err-write_block-clause-stopped
returns-in_err-write_block-clause-stopped g c =
    let text : c.as_slice-in-pieces-2.result.now ≡ block_text c.schema_of-schema.result.now (take c.args.given.now.schedule.now.block (drop (c.pieces.block * c.args.given.now.schedule.now.block) c.table_of-rows.result.now)) =
    c.as_slice-in-pieces-2.ensures.value ∙ c.in_ok-bytes.ensures ∙ ap (λ rows. block_text c.schema_of-schema.result.now (take c.args.given.now.schedule.now.block (drop (c.pieces.block * c.args.given.now.schedule.now.block) rows))) c.as_slice-in-pieces.ensures in
    let files = block_is (setup_of c.args.given.now.shape.now c.args.given.now.schedule.now) c.args.given.now.tables.now c.args.number c.pieces.block c.schema_of-schema.result.now c.table_of-rows.result.now c.as_slice-in-pieces-2.result.now c.schema_of-schema.ensures c.table_of-rows.ensures text in
    on_err c.from_residual-in_err-write_block.result _ (subst (λ n. FilledSome g.D.Disks (flat_map (block_files (setup_of c.args.given.now.shape.now c.args.given.now.schedule.now) c.args.given.now.tables.now c.args.number) (below n)) c.args.disks.now c.args.table.now c.write_block.new.table c.write_block.new.disks) (ap (λ blocks. slice_index_or blocks c.args.number 0) c.as_slice.ensures)
    (all_stopped g.D.Disks (block_files (setup_of c.args.given.now.shape.now c.args.given.now.schedule.now) c.args.given.now.tables.now c.args.number) c.pieces.block (slice_index_or c.as_slice.result.now c.args.number 0) c.args.disks.now c.pieces.disks c.write_block.new.disks c.args.table.now c.pieces.table c.write_block.new.table
    c.pieces-test.true c.pieces.invariant (subst (λ these. FilledSome g.D.Disks these c.pieces.disks c.pieces.table c.write_block.new.table c.write_block.new.disks) files c.in_err-write_block.ensures.stopped)))
