use Rattle.std.proofs.Common.{◌≡◌, List, ◌∙◌, true, map}
use Rattle.std.proofs.lemmas.Result.{IfOk-weaker}
use Rattle.hal_base.specs.declared.record.Record.{Record}
use Rattle.plain_job.specs.Chain.{together}
use Rattle.plain_job.specs.Job.{job}
use Rattle.task_outputs.proofs.Streams.{merged_job}
use Rattle.task_outputs.proofs.reducing.reduced.Goals as goal

pub returns : goal.returns
returns g c =
    let reduce = (g.F.Functions.meaning c.args.functions.now).reduce c.args.round c.args.step in
    let streams = c.deref_mut.ensures.value ∙ c.in_ok-streams.ensures in
    let all : List Record = job reduce (λ _. true) (map together c.args.inputs.items) in
    IfOk-weaker c.reduce_part.result (λ rows. rows ≡ job reduce (λ _. true) (map (λ rows. rows) c.deref_mut.result.now)) (λ rows. rows ≡ all) (λ rows e. e ∙ merged_job reduce c.deref_mut.result.now c.args.inputs.items streams) c.reduce_part.ensures
