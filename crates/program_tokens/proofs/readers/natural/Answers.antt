use Rattle.std.proofs.Common.{sym, ◌∙◌}
use Rattle.program_tokens.specs.steps.Parsers.{natural}
use Rattle.program_tokens.proofs.Fronts.{natural_is, not_taken}
use Rattle.program_tokens.proofs.readers.natural.Goals as goal

pub returns-then-not-sees_natural : goal.returns-then-not-sees_natural
unfolding natural
returns-then-not-sees_natural c = λ other. (not_taken _ c.args.tokens.now (sym c.sees_natural.ensures ∙ c.if-not-sees_natural.true), c.refused.ensures)

pub returns : goal.returns
returns c = natural_is c.in_ok-token.token c.args.tokens.now c.take.new.self c.in-Some.number c.in_ok-token.ensures.taken (sym c.natural_of.ensures ∙ c.in-Some.is)
