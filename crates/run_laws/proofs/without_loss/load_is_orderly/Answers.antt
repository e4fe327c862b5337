use Rattle.run_laws.proofs.Lossless.{load_is_orderly}
use Rattle.run_laws.proofs.without_loss.load_is_orderly.Goals as goal

pub returns : goal.returns
returns c = load_is_orderly
