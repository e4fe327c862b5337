use Rattle.std.proofs.lemmas.Result.{err_from_is_err_and}
use Rattle.hal_base.specs.declared.shape.Origin.TheVariants.{Prev}
use Rattle.loop_program.specs.Places.{step_named}
use Rattle.loop_program.proofs.Collecting.{each_goes_on, each_stops}
use Rattle.loop_program.proofs.places.later_named.Goals as goal

pub returns-in_err-step_named : goal.returns-in_err-step_named
returns-in_err-step_named c =
    let r = err_from_is_err_and c.from_residual.result c.from_residual.ensures.1 in
    rw (r.1, r.2) (each_stops (step_named c.args.tables.now c.args.functions.now Prev) c.args.steps.now c.steps.named c.steps.step-index c.step-item.result c.steps-test.true c.step-item.is c.steps.invariant c.in_err-step_named.field-0.0 c.in_err-step_named.ensures)

pub steps-preserved : goal.steps-preserved
steps-preserved c =
    rw c.in_ok-push.ensures.ok (each_goes_on (step_named c.args.tables.now c.args.functions.now Prev) c.args.steps.now c.steps.named c.steps.step-index c.step-item.result c.steps-test.true c.step-item.is c.steps.invariant c.in_ok-step_named.field-0 c.in_ok-step_named.ensures)
