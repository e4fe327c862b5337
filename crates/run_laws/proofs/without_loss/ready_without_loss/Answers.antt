use Rattle.run_laws.proofs.LosslessReady.{ready_without_loss}
use Rattle.run_laws.proofs.without_loss.ready_without_loss.Goals as goal

pub returns : goal.returns
returns c = ready_without_loss
