use Rattle.std.proofs.Common.{◌∙◌, ◌+◌, List, ap, drop, subst}
use Rattle.std.proofs.lemmas.Result.{err_from_is_err_and}
use Rattle.hal_base.specs.declared.fields.Schema.{Schema}
use Rattle.plain_job.specs.Fit.{AreTablesOf}
use Rattle.loop_program.specs.Whole.{Whole}
use Rattle.haloop_run.specs.Inputs.{tables_of}
use Rattle.haloop_run.specs.steps.Inputs.{NoTable, StopsAtTable, listing}
use Rattle.haloop_run.proofs.Stopping.{reads_then, stops_later, told_later}
use Rattle.haloop_run.proofs.Tables.{at_table, few_more, fit_all, fit_one_more, have_all, have_one_more, no_table_at, table_at}
use Rattle.haloop_run.proofs.input.read_tables.Goals as goal

pub returns-in_err-rows-clause-stops : goal.returns-in_err-rows-clause-stops
returns-in_err-rows-clause-stops g c =
    let files = g.F.Files in
    let program = c.args.program.now in
    let first = table_at _ program c.program.view_is c.program.invariant c.as_slice-names.result.now c.as_slice-paths.result.now c.as_slice-schema-items.result.now c.as_slice-names.ensures c.as_slice-paths.ensures c.as_slice-schema-items.ensures c.tables.at
    c.index-names-at.result c.index-paths-at.result c.schema-item.result c.tables-test.true c.index-names-at.is c.index-paths-at.is c.schema-item.is in
    let table = listing c.index-names-at.result c.index-paths-at.result c.schema-item.result in
    let so_far = c.tables.invariant in
    let r = err_from_is_err_and c.from_residual.result c.from_residual.ensures.1 in
    rw (r.1, r.2)
    (stops_later files c.args.files.now c.tables.files c.read_rows.new.files (NoTable table) (StopsAtTable program) c.in_err-rows.field-0.0 so_far.0
    (λ told t it n. at_table program (drop (c.tables.at + 1) (tables_of program)) c.tables.at table first c.tables.tables told (so_far.3 told t) it n)
    c.in_err-rows.ensures.stops)

pub tables-preserved : goal.tables-preserved
tables-preserved g c =
    let files = g.F.Files in
    let program = c.args.program.now in
    let first = table_at _ program c.program.view_is c.program.invariant c.as_slice-names.result.now c.as_slice-paths.result.now c.as_slice-schema-items.result.now c.as_slice-names.ensures c.as_slice-paths.ensures c.as_slice-schema-items.ensures c.tables.at
    c.index-names-at.result c.index-paths-at.result c.schema-item.result c.tables-test.true c.index-names-at.is c.index-paths-at.is c.schema-item.is in
    let table = listing c.index-names-at.result c.index-paths-at.result c.schema-item.result in
    let so_far = c.tables.invariant in (
      reads_then files c.args.files.now c.tables.files c.read_rows.new.files so_far.0 c.in_ok-rows.ensures.reads,
      fit_one_more c.as_slice-schema-items.result.now c.tables.at c.schema-item.result c.in_ok-rows.rows c.tables.tables c.push.new.self c.tables-test.true c.schema-item.is c.in_ok-rows.ensures.fit c.in_ok-push.ensures.ok so_far.1,
      few_more c.tables.tables c.push.new.self c.in_ok-rows.rows c.in_ok-push.ensures.ok so_far.2 c.in_ok-rows.ensures.few,
      λ told t.
          have_one_more (tables_of program) (drop (c.tables.at + 1) (tables_of program)) c.tables.at table first c.tables.tables c.push.new.self c.in_ok-rows.rows c.in_ok-push.ensures.ok told (so_far.3 told t)
          (c.in_ok-rows.ensures.found told (told_later files c.args.files.now c.tables.files told so_far.0 t)),
    )

pub returns-clause-fit : goal.returns-clause-fit
returns-clause-fit g c =
    let schemas = c.as_slice-schema-items.ensures ∙ ap (λ (w : Whole). w.shape.tables) c.program.view_is in
    subst (λ (ss : List Schema). AreTablesOf ss c.tables.tables) schemas (fit_all c.as_slice-schema-items.result.now c.tables.at c.tables.tables c.tables-test.false c.tables.invariant.1)

pub returns-clause-found : goal.returns-clause-found
returns-clause-found g c = λ told t.
    let program = c.args.program.now in
    have_all (tables_of program) c.tables.at c.tables.tables told
    (no_table_at _ program c.program.view_is c.program.invariant c.as_slice-names.result.now c.as_slice-paths.result.now c.as_slice-schema-items.result.now c.as_slice-names.ensures c.as_slice-paths.ensures c.as_slice-schema-items.ensures c.tables.at c.tables-test.false)
    (c.tables.invariant.3 told t)
