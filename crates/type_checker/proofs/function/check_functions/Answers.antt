use Rattle.std.proofs.lemmas.Result.{err_from_is_err_and}
use Rattle.type_checker.proofs.Faults.{function_fault}
use Rattle.type_checker.proofs.function.check_functions.Goals as goal

pub returns-in_err-check_function : goal.returns-in_err-check_function
returns-in_err-check_function c =
    let r = err_from_is_err_and c.from_residual.result c.from_residual.ensures.1 in
    rw (r.1, r.2)
    (function_fault c.args.functions.now c.functions.function-index c.function-item.result c.functions.number c.functions.names c.in_err-check_function.field-0.0 c.functions-test.true c.function-item.is c.functions.invariant.right c.in_err-check_function.ensures)
