use Rattle.std.proofs.Common.{◌≡◌, ◌∙◌, IfOk, ap, subst, sym}
use Rattle.std.specs.Option.{option_copied}
use Rattle.function_meaning.specs.Optional.{or_zero}
use Rattle.function_eval.proofs.EvaluatorLaws.{distance_by_number}
use Rattle.function_eval.proofs.evaluator.Evaluator.distance_by.Goals as goal

pub returns-in-Some : goal.returns-in-Some
returns-in-Some c =
    subst (λ found. IfOk c.run_distance.result (λ distance. distance ≡ or_zero found))
    (distance_by_number c.args.self.now.functions c.args.number c.args.key.now c.args.old.now c.args.new.now c.in-Some.function.now (ap option_copied (sym c.in-Some.is) ∙ c.resolved.ensures)) c.run_distance.ensures
