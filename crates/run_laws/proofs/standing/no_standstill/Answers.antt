use Rattle.run_laws.proofs.Standstill.{no_standstill}
use Rattle.run_laws.proofs.standing.no_standstill.Goals as goal

pub returns : goal.returns
returns c = no_standstill
