use Rattle.run_laws.proofs.UnmissedTurns.{starts_stay_orderly}
use Rattle.run_laws.proofs.without_loss.starts_stay_orderly.Goals as goal

pub returns : goal.returns
returns c = starts_stay_orderly
