use Rattle.std.proofs.Common.{ap, ◌∙◌, length}
use Rattle.std.proofs.lemmas.Result.{IfOk-weaker}
use Rattle.plain_job.specs.Chain.{parts_from, together}
use Rattle.memory_run.proofs.Serving.{round_is}
use Rattle.memory_run.proofs.first.round_over.Goals as goal

pub returns : goal.returns
returns g c =
    let m = g.F.Functions.meaning c.args.functions.now in
    let shape = c.args.shape.now in
    let state = together c.table_splits.result.now in
    IfOk-weaker c.round_out.result _ _ (λ out e real h. e ∙ round_is m shape real c.args.tables.now 1 state c.args.plan.now h ∙ ap (λ rows. parts_from m shape real 1 rows (length shape.steps)) c.table_splits.ensures) c.round_out.ensures
