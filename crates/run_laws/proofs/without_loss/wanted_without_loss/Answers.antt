use Rattle.run_laws.proofs.RoundWanted.{wanted_without_loss}
use Rattle.run_laws.proofs.without_loss.wanted_without_loss.Goals as goal

pub returns : goal.returns
returns c = wanted_without_loss
