use Rattle.run_laws.proofs.Tallying.{turn_tallies}
use Rattle.run_laws.proofs.refusals.turn_tallies.Goals as goal

pub returns : goal.returns
returns c = turn_tallies
