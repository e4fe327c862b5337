use Rattle.std.proofs.Common.{◌∙◌}
use Rattle.std.proofs.lemmas.Result.{IfOk-weaker}
use Rattle.plain_job.specs.Job.{stream}
use Rattle.sorted_parts.proofs.Dealing.{dealt_sorted}
use Rattle.sorted_parts.proofs.shuffle.spill.Goals as goal

pub returns-clause-parts : goal.returns-clause-parts
returns-clause-parts g c =
    let m = g.F.Functions.meaning c.args.functions.now in
    let emitted = stream (m.map c.args.round c.args.step c.args.source) c.args.rows.now in
    let made = dealt_sorted m c.args.round c.args.step c.args.parts emitted c.in_ok-builder.builder c.add.new.self c.in_ok-builder.ensures c.in_ok-add.ensures in
    IfOk-weaker c.finish.result _ _ (λ out e. e ∙ made) c.finish.ensures.parts
