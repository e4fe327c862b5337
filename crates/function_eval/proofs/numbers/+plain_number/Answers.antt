use Rattle.function_eval.proofs.MachineCalls.{call_number}
use Rattle.function_eval.proofs.numbers.+plain_number.Goals as goal

pub plain_number-returns-in-Call : goal.plain_number-returns-in-Call
plain_number-returns-in-Call t c = call_number c.args.frame.now.round c.args.slots.now c.args.expr.now c.in-Call.operation c.in-Call.args c.as_slice.result.now c.plain_call.result c.in-Call.is c.as_slice.ensures c.plain_call.ensures
