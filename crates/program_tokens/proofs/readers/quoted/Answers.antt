use Rattle.std.proofs.Common.{Ok, sym, ap, ◌∙◌}
use Rattle.program_tokens.specs.steps.Parsers.{quoted}
use Rattle.program_tokens.proofs.Fronts.{not_taken, quoted_is}
use Rattle.program_tokens.proofs.readers.quoted.Goals as goal

pub returns-then-not-sees_quoted : goal.returns-then-not-sees_quoted
unfolding quoted
returns-then-not-sees_quoted c = λ other. (not_taken _ c.args.tokens.now (sym c.sees_quoted.ensures ∙ c.if-not-sees_quoted.true), c.refused.ensures)

pub returns : goal.returns
returns c = quoted_is c.in_ok-text.field-0 c.args.tokens.now c.take.new.self c.in-Quoted.text c.in_ok-text.ensures.taken c.in-Quoted.is ∙ ap (λ text. Ok (text, c.take.new.self)) (sym c.in-Quoted.text-is)
