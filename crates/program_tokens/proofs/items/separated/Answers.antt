use Rattle.std.proofs.Common.{Ok, sym, ap, ◌∙◌, arith, subst}
use Rattle.program_tokens.specs.steps.Parsers as parsers
use Rattle.program_tokens.proofs.Turns.{Separating, eat_reads, eat_shrinks, reads_refused, separating_ends, separating_more, separating_refused}
use Rattle.program_tokens.proofs.items.separated.Goals as goal

pub returns-in_err-read : goal.returns-in_err-read
returns-in_err-read g c =
    reads_refused _ _ c.from_residual.result c.read.new.tokens c.in_err-read.field-0.0 c.from_residual.ensures.1 c.in_err-read.ensures.reads
    (separating_refused g.T.Item.reader c.read.new.tokens c.items.invariant)

pub returns-in_err-eat : goal.returns-in_err-eat
returns-in_err-eat g c =
    reads_refused _ _ c.from_residual-in_err-eat.result c.eat.new.tokens c.in_err-eat.field-0.0 c.from_residual-in_err-eat.ensures.1 c.in_err-eat.ensures
    (eat_reads _ c.read.new.tokens c.eat.new.tokens _)

pub returns-then-not-branch : goal.returns-then-not-branch
returns-then-not-branch g c =
    separating_ends g.T.Item.reader c.in_ok-read.field-0 c.read.new.tokens c.eat.new.tokens c.items.invariant c.in_ok-read.ensures.reads
    (c.in_ok-eat.ensures ∙ ap (λ more. Ok (more, c.eat.new.tokens)) c.if-not-branch.true)
    ∙ ap (λ found. Ok (found, c.eat.new.tokens)) (sym c.in_ok-push.ensures.ok)

pub items-smaller : goal.items-smaller
items-smaller g c =
    let shorter = c.in_ok-read.ensures.shorter in
    let fewer = eat_shrinks _ _ _ _ c.in_ok-eat.ensures in
    omega (arith, shorter, fewer)

pub items-preserved : goal.items-preserved
items-preserved g c =
    let more = separating_more g.T.Item.reader c.in_ok-read.field-0 c.read.new.tokens c.eat.new.tokens c.items.invariant c.in_ok-read.ensures.reads c.in_ok-read.ensures.shorter
    (c.in_ok-eat.ensures ∙ ap (λ more. Ok (more, c.eat.new.tokens)) c.if-not-branch.false)
    in
    subst (λ found. Separating g.T.Item.reader (parsers.separated g.T.Item.reader c.args.tokens.now) found c.eat.new.tokens) (sym c.in_ok-push.ensures.ok) more
