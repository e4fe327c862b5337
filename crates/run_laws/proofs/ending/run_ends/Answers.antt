use Rattle.run_laws.proofs.Ends.{run_ends}
use Rattle.run_laws.proofs.ending.run_ends.Goals as goal

pub returns : goal.returns
returns c = run_ends
