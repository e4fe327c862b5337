use Rattle.std.proofs.Common.{◌∙◌, ap, ap₂, map, sym}
use Rattle.operations.specs.Operations.{operation_named}
use Rattle.function_eval.specs.steps.Resolved.{call_of, slots_in, resolved}
use Rattle.function_eval.proofs.ResolvingLaws.{call_resolved}
use Rattle.function_eval.proofs.resolve.+expression.Goals as goal

pub resolve_expr-returns-in_ok-args-in-Call : goal.resolve_expr-returns-in_ok-args-in-Call
resolve_expr-returns-in_ok-args-in-Call t c =
    let names = slots_in c.args.scope.now in
    c.call_to.ensures
    ∙ ap₂ call_of (c.operation_named.ensures ∙ ap operation_named c.as_slice-in-Call-2.ensures.value) (c.in_ok-args-in-Call.ensures ∙ ap (map (resolved names)) c.as_slice-in-Call.ensures)
    ∙ sym (ap (resolved names) c.in-Call.is ∙ call_resolved names c.in-Call.name c.in-Call.args)
