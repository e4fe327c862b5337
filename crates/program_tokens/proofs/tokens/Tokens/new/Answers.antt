use Rattle.std.proofs.Common.{subst}
use Rattle.program_tokens.specs.Tokens.{AreTokensOf}
use Rattle.program_tokens.specs.steps.Front.{AreSpelled}
use Rattle.program_tokens.proofs.Lists.{left_spelled, tokens_are}
use Rattle.program_tokens.proofs.tokens.Tokens.new.Goals as goal

pub returns : goal.returns
returns c = subst (λ tokens. AreTokensOf c.args.text.now tokens) c.in_ok-next.ensures.taken (tokens_are c.args.text.now)

pub invariant_of-result : goal.invariant_of-result
invariant_of-result c = record { room = c.in_ok-next.ensures.room; spelled = subst AreSpelled c.in_ok-next.ensures.taken (left_spelled 1 c.args.text.now) }
