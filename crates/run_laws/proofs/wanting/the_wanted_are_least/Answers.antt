use Rattle.run_laws.proofs.Walks.{wanted_are_least}
use Rattle.run_laws.proofs.wanting.the_wanted_are_least.Goals as goal

pub returns : goal.returns
returns c = wanted_are_least
