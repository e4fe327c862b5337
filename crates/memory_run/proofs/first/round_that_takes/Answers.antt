use Rattle.std.proofs.Common.{ap, ◌∙◌}
use Rattle.std.proofs.lemmas.Result.{IfOk-weaker}
use Rattle.plain_job.specs.Chain.{table_at}
use Rattle.sorted_parts.specs.Spills.{spilled}
use Rattle.memory_run.proofs.Releasing.{serves_without, start_taken}
use Rattle.memory_run.proofs.first.round_that_takes.Goals as goal

pub returns-clause-out : goal.returns-clause-out
returns-clause-out g c =
    let m = g.F.Functions.meaning c.args.functions.now in
    let shape = c.args.shape.now in
    let state = table_at c.args.tables.now shape.start in
    let made = c.in_ok-sections.ensures ∙ ap (λ rows. spilled m 1 1 1 rows shape.parts) c.take_table-start.ensures.table in
    IfOk-weaker c.round_out.result _ _ (λ out e real h. e ∙ start_taken m shape real c.args.tables.now c.take_table-start.new.tables state c.args.plan.now c.in_ok-sections.sections c.requires.once made c.take_table-start.ensures.left h) c.round_out.ensures

pub returns-clause-serve : goal.returns-clause-serve
returns-clause-serve g c =
    let m = g.F.Functions.meaning c.args.functions.now in
    IfOk-weaker c.round_out.result _ _ (λ out e real h. serves_without m c.args.shape.now real c.args.tables.now c.take_table-start.new.tables c.args.shape.now.start c.args.plan.now c.requires.once.start_not c.take_table-start.ensures.left h) c.round_out.ensures
