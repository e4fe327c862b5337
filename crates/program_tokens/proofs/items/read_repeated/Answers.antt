use Rattle.std.proofs.Common.{sym, ◌∙◌, subst}
use Rattle.program_tokens.specs.steps.Parsers as parsers
use Rattle.program_tokens.proofs.Turns.{Going, going_ends, going_more, going_refused, reads_refused}
use Rattle.program_tokens.proofs.items.read_repeated.Goals as goal

pub returns-in_err-read : goal.returns-in_err-read
returns-in_err-read g c =
    reads_refused _ _ c.from_residual.result c.read.new.tokens c.in_err-read.field-0.0 c.from_residual.ensures.1 c.in_err-read.ensures.reads
    (going_refused g.T.Repeated.begun_by g.T.Item.reader c.read.new.tokens c.items.invariant (sym c.comes_next.ensures ∙ c.items-test.true))

pub items-preserved : goal.items-preserved
items-preserved g c =
    let more = going_more g.T.Repeated.begun_by g.T.Item.reader c.in_ok-read.field-0 c.read.new.tokens c.items.invariant (sym c.comes_next.ensures ∙ c.items-test.true) c.in_ok-read.ensures.reads c.in_ok-read.ensures.shorter in
    subst (λ found. Going g.T.Repeated.begun_by g.T.Item.reader (parsers.repeated g.T.Repeated.begun_by g.T.Item.reader c.args.found c.args.tokens.now) found c.read.new.tokens) (sym c.in_ok-push.ensures.ok) more

pub returns : goal.returns
returns g c = going_ends g.T.Repeated.begun_by g.T.Item.reader c.items.invariant (sym c.comes_next.ensures ∙ c.items-test.false)
