use Rattle.run_laws.proofs.UnmissedTurns.{quiet_turns}
use Rattle.run_laws.proofs.without_loss.quiet_turns.Goals as goal

pub returns : goal.returns
returns c = quiet_turns
