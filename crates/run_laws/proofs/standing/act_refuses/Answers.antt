use Rattle.run_laws.proofs.Standstill.{act_refuses}
use Rattle.run_laws.proofs.standing.act_refuses.Goals as goal

pub returns : goal.returns
returns c = act_refuses
