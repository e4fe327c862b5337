use Rattle.std.proofs.lemmas.Result.{on_ok_weaker}
use Rattle.memory_run.proofs.OneTable.{table_is}
use Rattle.memory_run.proofs.kept.keep_sections.Goals as goal

pub returns-clause-serve : goal.returns-clause-serve
returns-clause-serve g c =
    let found = c.in-Some.ensures.lookup in
    let here = table_is c.args.tables.now c.args.number c.in-Some.rows.now c.in-Some.rows.now found.3.0 found.1 in
    on_ok_weaker c.keep_in_steps.result (λ serve real h. serve real c.args.tables.now here h) c.keep_in_steps.ensures.serve
