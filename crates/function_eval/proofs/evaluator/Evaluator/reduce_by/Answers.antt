use Rattle.std.proofs.Common.{◌≡◌, ◌++◌, ◌∙◌, OnOk, ap, subst, sym}
use Rattle.std.specs.Option.{option_copied}
use Rattle.function_meaning.specs.Optional.{or_none}
use Rattle.function_eval.proofs.EvaluatorLaws.{reduce_by_number}
use Rattle.function_eval.proofs.evaluator.Evaluator.reduce_by.Goals as goal

pub returns-in-Some-clause-appended : goal.returns-in-Some-clause-appended
returns-in-Some-clause-appended c =
    subst (λ found. OnOk c.run_reduce.result (c.run_reduce.new.out ≡ c.args.out.now ++ or_none found))
    (reduce_by_number c.args.self.now.functions c.args.number c.args.round c.args.key.now c.args.groups.now c.in-Some.function.now (ap option_copied (sym c.in-Some.is) ∙ c.resolved.ensures)) c.run_reduce.ensures.appended
