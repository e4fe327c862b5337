use Rattle.run_laws.proofs.Following.{same_outcome}
use Rattle.run_laws.proofs.turns.same_outcome.Goals as goal

pub returns : goal.returns
returns c = same_outcome
