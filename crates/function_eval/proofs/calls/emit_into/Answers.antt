use Rattle.std.proofs.Common.{◌∙◌, ap, take}
use Rattle.std.proofs.lemmas.Result.{on_ok_weaker}
use Rattle.function_eval.specs.steps.Machine.{groups_of}
use Rattle.function_eval.proofs.CallLaws.{stopped}
use Rattle.function_eval.proofs.calls.emit_into.Goals as goal

pub returns-in-Err-clause-appended : goal.returns-in-Err-clause-appended
returns-in-Err-clause-appended c =
    on_ok_weaker c.only_memory.result
    (λ nothing. stopped c.args.frame.now.round (groups_of c.args.frame.now.streams) c.args.slots c.args.body.now c.args.out.now _ _ _ _ _ c.run_to_end-ended.ensures.ran c.in-Err.is nothing c.replace.ensures.value c.run_to_end-ended.ensures.kept
    (c.truncate.ensures ∙ ap (λ n. take n c.run_to_end-ended.result.1) c.len-before.ensures))
    c.only_memory.ensures
