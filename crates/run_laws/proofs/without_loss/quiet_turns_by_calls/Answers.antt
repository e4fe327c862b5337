use Rattle.run_laws.proofs.UnmissedTurns.{quiet_turns_by_calls}
use Rattle.run_laws.proofs.without_loss.quiet_turns_by_calls.Goals as goal

pub returns : goal.returns
returns c = quiet_turns_by_calls
