use Rattle.run_laws.proofs.Reaching.{reached_after}
use Rattle.run_laws.proofs.states.turn_reaches.Goals as goal

pub returns : goal.returns
returns c = reached_after
