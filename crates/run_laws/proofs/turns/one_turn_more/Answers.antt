use Rattle.run_laws.proofs.Following.{one_turn_more}
use Rattle.run_laws.proofs.turns.one_turn_more.Goals as goal

pub returns : goal.returns
returns c = one_turn_more
