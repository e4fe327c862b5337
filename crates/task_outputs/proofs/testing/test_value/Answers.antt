use Rattle.std.proofs.Common.{ap, ◌∙◌}
use Rattle.std.proofs.lemmas.Result.{IfOk-weaker}
use Rattle.hal_base.specs.Order.{record_cmp}
use Rattle.hal_base.specs.Sorted.{sorted}
use Rattle.plain_job.specs.Chain.{together}
use Rattle.task_outputs.proofs.Streams.{sorted_far}
use Rattle.task_outputs.proofs.testing.test_value.Goals as goal

pub returns : goal.returns
returns g c =
    let far = (g.F.Functions.meaning c.args.functions.now).distance in
    let old = c.sort_rows-old.ensures ∙ ap (sorted record_cmp) c.in_ok-joined.ensures in
    let new = c.sort_rows-new.ensures ∙ ap (sorted record_cmp) c.in_ok-joined-2.ensures in
    let same = sorted_far far (together c.args.old) (together c.args.new) c.sort_rows-old.result c.sort_rows-new.result old new in
    IfOk-weaker c.part_distance.result _ _ (λ n e. e ∙ same) c.part_distance.ensures
