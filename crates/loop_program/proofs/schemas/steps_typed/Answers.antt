use Rattle.loop_program.proofs.Collecting.{steps_go_on}
use Rattle.loop_program.proofs.schemas.steps_typed.Goals as goal

pub steps-preserved : goal.steps-preserved
steps-preserved c =
    rw (c.in_ok-push.ensures.ok, c.in_ok-next.ensures)
    (steps_go_on c.args.functions.now c.args.tables.now c.args.state.now c.steps.output _ c.steps.made c.args.steps.now c.steps.step-index c.step-item.result c.in_ok-typed.typed c.steps-test.true c.step-item.is c.steps.invariant c.in_ok-typed.ensures)
