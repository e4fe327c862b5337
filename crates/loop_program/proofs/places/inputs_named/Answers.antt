use Rattle.std.proofs.lemmas.Result.{err_from_is_err_and}
use Rattle.loop_program.specs.Places.{input_named}
use Rattle.loop_program.proofs.Collecting.{each_stops}
use Rattle.loop_program.proofs.places.inputs_named.Goals as goal

pub returns-in_err-input_named : goal.returns-in_err-input_named
returns-in_err-input_named c =
    let r = err_from_is_err_and c.from_residual.result c.from_residual.ensures.1 in
    rw (r.1, r.2) (each_stops (input_named c.args.tables.now c.args.functions.now) c.args.inputs.now c.inputs.named c.inputs.input-index c.input-item.result c.inputs-test.true c.input-item.is c.inputs.invariant c.in_err-input_named.field-0.0 c.in_err-input_named.ensures)
