use Rattle.std.proofs.Common.{true, false, Ok, ◌-◌, suc, sym, ap, ◌∙◌, ◌≡◌, arith, subst}
use Rattle.program_tokens.specs.steps.Parsers.{Reads}
use Rattle.function_language.specs.steps.Reading as reading
use Rattle.function_language.specs.steps.Reading.{statement_of}
use Rattle.function_language.proofs.Shorter.{statement_shorter}
use Rattle.program_tokens.proofs.Turns.{Blocking, blocking_ends, blocking_more, blocking_refused, eat_reads, eat_shrinks, reads_on, reads_refused}
use Rattle.function_language.proofs.statement.+statement.Goals as goal

pub block-returns : goal.block-returns
block-returns t c =
    let depth : c.args.depth ≡ suc (c.args.depth - 1) = let h = c.if-depth-eq0.false in omega (arith, h) in
    subst (λ d. Reads (reading.block d c.args.tokens.now) c.statements.result c.statements.new.tokens) (sym depth)
    (reads_on _ _ c.expect.new.tokens _ _ _ c.in_ok-expect.ensures c.statements.ensures)

pub statement-returns-then-branch : goal.statement-returns-then-branch
unfolding statement_of
statement-returns-then-branch t c =
    reads_on _ true c.eat.new.tokens _ _ _ (c.in_ok-eat.ensures ∙ ap (λ found. Ok (found, c.eat.new.tokens)) c.if-branch.true) c.let_statement.ensures

pub statement-returns-then-branch-2 : goal.statement-returns-then-branch-2
unfolding statement_of
statement-returns-then-branch-2 t c =
    reads_on _ false c.eat.new.tokens _ _ _ (c.in_ok-eat.ensures ∙ ap (λ found. Ok (found, c.eat.new.tokens)) c.if-branch.false)
    (reads_on _ true c.eat-2.new.tokens _ _ _ (c.in_ok-eat-2.ensures ∙ ap (λ found. Ok (found, c.eat-2.new.tokens)) c.if-branch-2.true) c.set_statement.ensures)

pub statement-returns-then-branch-3 : goal.statement-returns-then-branch-3
unfolding statement_of
statement-returns-then-branch-3 t c =
    reads_on _ false c.eat.new.tokens _ _ _ (c.in_ok-eat.ensures ∙ ap (λ found. Ok (found, c.eat.new.tokens)) c.if-branch.false)
    (reads_on _ false c.eat-2.new.tokens _ _ _ (c.in_ok-eat-2.ensures ∙ ap (λ found. Ok (found, c.eat-2.new.tokens)) c.if-branch-2.false)
    (reads_on _ true c.eat-3.new.tokens _ _ _ (c.in_ok-eat-3.ensures ∙ ap (λ found. Ok (found, c.eat-3.new.tokens)) c.if-branch-3.true) c.if_statement.ensures))

pub statement-returns : goal.statement-returns
unfolding statement_of
statement-returns t c =
    reads_on _ false c.eat.new.tokens _ _ _ (c.in_ok-eat.ensures ∙ ap (λ found. Ok (found, c.eat.new.tokens)) c.if-branch.false)
    (reads_on _ false c.eat-2.new.tokens _ _ _ (c.in_ok-eat-2.ensures ∙ ap (λ found. Ok (found, c.eat-2.new.tokens)) c.if-branch-2.false)
    (reads_on _ false c.eat-3.new.tokens _ _ _ (c.in_ok-eat-3.ensures ∙ ap (λ found. Ok (found, c.eat-3.new.tokens)) c.if-branch-3.false)
    (reads_on _ false c.eat-4.new.tokens _ _ _ (c.in_ok-eat-4.ensures ∙ ap (λ found. Ok (found, c.eat-4.new.tokens)) c.if-branch-4.false) c.result_statement.ensures)))

pub statements-returns-in_err-eat : goal.statements-returns-in_err-eat
statements-returns-in_err-eat t c =
    reads_refused _ _ c.from_residual.result c.eat.new.tokens c.in_err-eat.field-0.0 c.from_residual.ensures.1 c.in_err-eat.ensures
    (eat_reads _ c.statements.tokens c.eat.new.tokens _)

pub statements-returns-in_err-statement : goal.statements-returns-in_err-statement
statements-returns-in_err-statement t c =
    let item = reading.statement_of (reading.expr c.args.depth) (reading.block c.args.depth) in
    reads_refused _ _ c.from_residual-in_err-statement.result c.statement.new.tokens c.in_err-statement.field-0.0 c.from_residual-in_err-statement.ensures.1 c.in_err-statement.ensures
    (blocking_refused item c.eat.new.tokens c.statement.new.tokens c.statements.invariant (c.in_ok-eat.ensures ∙ ap (λ found. Ok (found, c.eat.new.tokens)) c.if-not-branch.true))

pub statements-statements-smaller : goal.statements-statements-smaller
statements-statements-smaller t c =
    let shorter = statement_shorter c.args.depth _ _ _ c.in_ok-statement.ensures in
    let fewer = eat_shrinks _ _ _ _ c.in_ok-eat.ensures in
    omega (arith, shorter, fewer)

pub statements-statements-preserved : goal.statements-statements-preserved
statements-statements-preserved t c =
    let item = reading.statement_of (reading.expr c.args.depth) (reading.block c.args.depth) in
    let more = blocking_more item c.eat.new.tokens c.statement.new.tokens c.in_ok-statement.field-0 c.statements.invariant
    (c.in_ok-eat.ensures ∙ ap (λ found. Ok (found, c.eat.new.tokens)) c.if-not-branch.true) c.in_ok-statement.ensures
    (statement_shorter c.args.depth _ _ _ c.in_ok-statement.ensures)
    in
    subst (λ found. Blocking item (reading.statements item c.args.tokens.now) found c.statement.new.tokens) (sym c.in_ok-push.ensures.ok) more

pub statements-returns : goal.statements-returns
statements-returns t c =
    blocking_ends (reading.statement_of (reading.expr c.args.depth) (reading.block c.args.depth)) c.eat.new.tokens c.statements.invariant
    (c.in_ok-eat.ensures ∙ ap (λ found. Ok (found, c.eat.new.tokens)) c.if-not-branch.false)
