use Rattle.std.proofs.Common.{◌≡◌, ◌∙◌, IfOk, ap, subst, sym}
use Rattle.std.specs.Option.{option_copied}
use Rattle.type_checker.specs.declared.uses.Use.TheVariants as a_use
use Rattle.function_meaning.specs.Meanings.{partition_used}
use Rattle.function_meaning.specs.Optional.{or_zero}
use Rattle.function_eval.proofs.EvaluatorLaws.{partition_by_number}
use Rattle.function_eval.proofs.evaluator.Evaluator.partition_by.Goals as goal

pub returns-in-Some : goal.returns-in-Some
returns-in-Some c =
    subst (λ found. IfOk c.run_partition.result (λ part. part ≡ or_zero found))
    (partition_by_number c.args.self.now.functions c.args.number c.parts.result c.args.round c.args.key.now c.in-Some.function.now (ap option_copied (sym c.in-Some.is) ∙ c.resolved.ensures)
    ∙ ap (λ parts. partition_used c.args.self.now.functions parts c.args.round c.args.key.now (a_use.Function c.args.number)) c.parts.ensures.value) c.run_partition.ensures
