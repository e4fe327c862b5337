use Rattle.std.proofs.Common.{◌∙◌, ap, ap₂, sym}
use Rattle.std.proofs.lemmas.Result.{IfOk-weaker}
use Rattle.function_eval.specs.steps.Resolved.{all_resolved, statement_resolved}
use Rattle.function_eval.specs.steps.Resolving.{cut_back, other_resolved}
use Rattle.function_eval.proofs.ResolvingLaws.{block_left, for_resolved, if_made}
use Rattle.function_eval.proofs.resolve.+statement.Goals as goal

pub resolve_block-returns-clause-scope : goal.resolve_block-returns-clause-scope
resolve_block-returns-clause-scope t c = c.leave.ensures ∙ ap₂ cut_back c.variable_count-before.ensures c.in_ok-made.ensures.scope ∙ block_left c.args.scope.now c.args.block.now

pub resolve_statement-returns-in_ok-no-in-If-clause-made : goal.resolve_statement-returns-in_ok-no-in-If-clause-made
resolve_statement-returns-in_ok-no-in-If-clause-made t c =
    let scope = c.args.scope.now in
    if_made scope c.args.statement.now c.in-If.test c.in-If.yes c.in-If.no c.in_ok-test-in-If.test c.in_ok-yes-in-If.yes c.in_ok-no-in-If.no c.in-If.is
    c.in_ok-test-in-If.ensures
    (c.in_ok-yes-in-If.ensures.made ∙ ap (all_resolved scope) c.as_slice-in-If.ensures)
    (c.in_ok-no-in-If.ensures.made ∙ ap (λ scope. other_resolved scope c.in-If.no) c.in_ok-yes-in-If.ensures.scope)

pub resolve_statement-returns-in-For-clause-made : goal.resolve_statement-returns-in-For-clause-made
resolve_statement-returns-in-For-clause-made t c =
    let scope = c.args.scope.now in
    let e = ap (statement_resolved scope) c.in-For.is ∙ for_resolved scope c.in-For.names c.in-For.stream c.in-For.body in
    IfOk-weaker c.resolve_for.result _ _ (λ made is. is ∙ sym e) c.resolve_for.ensures.made
