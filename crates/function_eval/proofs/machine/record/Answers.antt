use Rattle.std.proofs.Common.{arith}
use Rattle.function_eval.proofs.MachineCalls.{too_many_arguments}
use Rattle.function_eval.proofs.machine.record.Goals as goal

pub returns-then-others-gt7 : goal.returns-then-others-gt7
returns-then-others-gt7 c = too_many_arguments c.args.frame.now.round c.args.slots.now c.args.args.now (omega arith)
