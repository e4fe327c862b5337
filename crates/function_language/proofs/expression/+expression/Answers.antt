use Rattle.std.proofs.Common.{None, Ok, sym, ap, ◌∙◌, arith, rules, subst}
use Rattle.program_tokens.specs.steps.Parsers.{closed, separated}
use Rattle.function_language.specs.steps.Reading as reading
use Rattle.function_language.specs.steps.Reading.{or_read}
use Rattle.function_language.proofs.Shorter.{expr_shorter}
use Rattle.program_tokens.proofs.Turns.{Separating, eat_reads, eat_shrinks, reads_on, reads_refused, separating_ends, separating_more, separating_refused}
use Rattle.function_language.proofs.expression.+expression.Goals as goal

pub expr-returns : goal.expr-returns
expr-returns t c =
    reads_on _ None c.literal.new.tokens (λ found. or_read found (reading.named (reading.call c.args.depth))) c.named.result c.named.new.tokens
    (c.in_ok-found.ensures ∙ ap (λ found. Ok (found, c.literal.new.tokens)) c.in_default.is) c.named.ensures

pub some_arguments-returns-in_err-expr : goal.some_arguments-returns-in_err-expr
some_arguments-returns-in_err-expr t c =
    reads_refused _ _ c.from_residual.result c.expr.new.tokens c.in_err-expr.field-0.0 c.from_residual.ensures.1 c.in_err-expr.ensures
    (separating_refused (reading.expr c.args.depth) c.expr.new.tokens c.args-2.invariant)

pub some_arguments-returns-in_err-eat : goal.some_arguments-returns-in_err-eat
some_arguments-returns-in_err-eat t c =
    reads_refused _ _ c.from_residual-in_err-eat.result c.eat.new.tokens c.in_err-eat.field-0.0 c.from_residual-in_err-eat.ensures.1 c.in_err-eat.ensures
    (eat_reads _ c.expr.new.tokens c.eat.new.tokens _)

pub some_arguments-returns-then-not-branch : goal.some_arguments-returns-then-not-branch
some_arguments-returns-then-not-branch t c =
    separating_ends (reading.expr c.args.depth) c.in_ok-expr.field-0 c.expr.new.tokens c.eat.new.tokens c.args-2.invariant c.in_ok-expr.ensures
    (c.in_ok-eat.ensures ∙ ap (λ found. Ok (found, c.eat.new.tokens)) c.if-not-branch.true)
    ∙ ap (λ args. Ok (args, c.eat.new.tokens)) (sym c.in_ok-push.ensures.ok)

pub some_arguments-args-2-smaller : goal.some_arguments-args-2-smaller
some_arguments-args-2-smaller t c =
    let shorter = expr_shorter c.args.depth _ _ _ c.in_ok-expr.ensures in
    let fewer = eat_shrinks _ _ _ _ c.in_ok-eat.ensures in
    omega (arith, shorter, fewer)

pub some_arguments-args-2-preserved : goal.some_arguments-args-2-preserved
some_arguments-args-2-preserved t c =
    let more = separating_more (reading.expr c.args.depth) c.in_ok-expr.field-0 c.expr.new.tokens c.eat.new.tokens c.args-2.invariant c.in_ok-expr.ensures
    (expr_shorter c.args.depth _ _ _ c.in_ok-expr.ensures)
    (c.in_ok-eat.ensures ∙ ap (λ found. Ok (found, c.eat.new.tokens)) c.if-not-branch.false)
    in
    subst (λ args. Separating (reading.expr c.args.depth) (separated (reading.expr c.args.depth) c.args.tokens.now) args c.eat.new.tokens) (sym c.in_ok-push.ensures.ok) more

pub arguments-returns-in_err-eat : goal.arguments-returns-in_err-eat
unfolding closed
arguments-returns-in_err-eat t c = search rules

pub arguments-returns-then-branch : goal.arguments-returns-then-branch
unfolding closed
arguments-returns-then-branch t c = search rules

pub arguments-returns-in_err-args : goal.arguments-returns-in_err-args
unfolding closed
arguments-returns-in_err-args t c = search rules

pub arguments-returns-in_err-expect : goal.arguments-returns-in_err-expect
unfolding closed
arguments-returns-in_err-expect t c = search rules

pub arguments-returns : goal.arguments-returns
unfolding closed
arguments-returns t c = search rules
