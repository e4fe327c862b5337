use Rattle.std.proofs.Common.{◌+◌, ◌++◌, ap, ◌∙◌, append_assoc}
use Rattle.run_model.specs.Tasks.{maps, reduces}
use Rattle.loop_scheduler.proofs.Making.{tasks_of_step}
use Rattle.loop_scheduler.proofs.Ranges.{flowing_more}
use Rattle.loop_scheduler.proofs.tasks.round_tasks.Goals as goal

pub steps-preserved : goal.steps-preserved
steps-preserved c =
    flowing_more (tasks_of_step c.args.shape.now c.args.round) c.steps.tasks c.push_reduces.new.tasks _ c.steps.step (c.last_step-step-end.result + 1) c.steps-test.true
    (c.in_ok-push_reduces.ensures ∙ ap (λ tasks. tasks ++ reduces c.args.shape.now c.args.round c.steps.step) c.in_ok-push_maps.ensures ∙ append_assoc c.steps.tasks (maps c.args.shape.now c.args.round c.steps.step) (reduces c.args.shape.now c.args.round c.steps.step))
    c.steps.invariant
