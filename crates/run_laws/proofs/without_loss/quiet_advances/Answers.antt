use Rattle.run_laws.proofs.UnmissedTurns.{quiet_advances}
use Rattle.run_laws.proofs.without_loss.quiet_advances.Goals as goal

pub returns : goal.returns
returns c = quiet_advances
