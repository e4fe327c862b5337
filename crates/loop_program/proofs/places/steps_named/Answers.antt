use Rattle.std.proofs.Common.{List, subst, sym}
use Rattle.std.proofs.lemmas.Result.{err_from_is_err_and}
use Rattle.hal_base.specs.declared.shape.Origin.TheVariants.{State}
use Rattle.program_sketch.specs.declared.sketch.StepSketch.{StepSketch}
use Rattle.loop_program.specs.Places.{step_named, steps_named}
use Rattle.loop_program.specs.steps.Tells.{IsFound}
use Rattle.loop_program.proofs.Collecting.{starts, stops}
use Rattle.loop_program.proofs.places.steps_named.Goals as goal

pub returns-in_err-step : goal.returns-in_err-step
returns-in_err-step c =
    let tables = c.args.tables.now in
    let functions = c.args.functions.now in
    let r = err_from_is_err_and c.from_residual.result c.from_residual.ensures.1 in
    rw (r.1, r.2)
    (subst (λ (steps : List StepSketch). IsFound (steps_named tables functions steps) c.in_err-step.field-0.0)
    (sym (starts c.args.steps.now c.first-item.result c.in-len1-up.len_at_least c.first-item.is))
    (stops (step_named tables functions State c.first-item.result) _ c.in_err-step.field-0.0 c.in_err-step.ensures))
