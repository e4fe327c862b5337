use Rattle.run_causes.proofs.Runs.{misses_are_struck}
use Rattle.run_causes.proofs.states.misses_are_struck.Goals as goal

pub returns : goal.returns
returns c = misses_are_struck
