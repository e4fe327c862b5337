use Rattle.std.proofs.Common.{Some, ap, false, true, ◌∙◌}
use Rattle.function_eval.specs.steps.Machine.{groups_of}
use Rattle.function_eval.proofs.MachineStatements.{for_ran, if_ran}
use Rattle.function_eval.proofs.machine.+run.Goals as goal

pub run-returns-then-branch-clause-ran : goal.run-returns-then-branch-clause-ran
run-returns-then-branch-clause-ran t c =
    if_ran c.args.frame.now.round (groups_of c.args.frame.now.streams) c.args.statement.now c.in-If.test c.in-If.yes c.in-If.no c.as_slice-then-branch.result.now c.as_slice.result.now c.args.running.now c.run_block.new.running c.run_block.result true
    c.in-If.is c.as_slice.ensures (c.in_ok-holds-in-If.ensures ∙ ap Some c.if-branch.true) c.as_slice-then-branch.ensures c.run_block.ensures.ran

pub run-returns-else-branch-clause-ran : goal.run-returns-else-branch-clause-ran
run-returns-else-branch-clause-ran t c =
    if_ran c.args.frame.now.round (groups_of c.args.frame.now.streams) c.args.statement.now c.in-If.test c.in-If.yes c.in-If.no c.as_slice-else-branch.result.now c.as_slice.result.now c.args.running.now c.run_block-else-branch.new.running c.run_block-else-branch.result false
    c.in-If.is c.as_slice.ensures (c.in_ok-holds-in-If.ensures ∙ ap Some c.if-branch.false) c.as_slice-else-branch.ensures c.run_block-else-branch.ensures.ran

pub run-returns-in-For-clause-ran : goal.run-returns-in-For-clause-ran
run-returns-in-For-clause-ran t c =
    for_ran c.args.frame.now.round (groups_of c.args.frame.now.streams) c.args.statement.now c.in-For.stream c.in-For.fields c.in-For.body c.as_slice-in-For.result.now c.args.running.now c.run_for.new.running c.run_for.result
    c.in-For.is c.as_slice-in-For.ensures c.run_for.ensures.ran
