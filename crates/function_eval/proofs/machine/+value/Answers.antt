use Rattle.std.proofs.Common.{arith}
use Rattle.function_eval.proofs.MachineCalls.{call_given, many_arguments}
use Rattle.function_eval.proofs.machine.+value.Goals as goal

pub any_value-returns-in-Call : goal.any_value-returns-in-Call
any_value-returns-in-Call t c = call_given c.args.frame.now.round c.args.slots.now c.args.expr.now c.in-Call.operation c.in-Call.args c.as_slice.result.now c.call.result c.in-Call.is c.as_slice.ensures c.call.ensures

pub call-returns-in-len4-up : goal.call-returns-in-len4-up
call-returns-in-len4-up t c = many_arguments c.args.frame.now.round c.args.slots.now c.args.operation c.args.args.now (omega arith)
