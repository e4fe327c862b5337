use Rattle.program_tokens.proofs.Lists.{behind_spelled, left_spelled}
use Rattle.program_tokens.proofs.tokens.Tokens.take.Goals as goal

pub invariant_of-self : goal.invariant_of-self
invariant_of-self c =
    let text = c.token.new.self in
    record { room = c.token.ensures.room; spelled = (c.self.invariant.spelled.0, behind_spelled c.self.inside.next.lexeme _ (left_spelled text.line text.left.now)) }
