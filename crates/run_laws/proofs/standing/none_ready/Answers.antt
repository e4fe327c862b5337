use Rattle.run_laws.proofs.Standstill.{none_ready_idle}
use Rattle.run_laws.proofs.standing.none_ready.Goals as goal

pub returns : goal.returns
returns c = none_ready_idle
