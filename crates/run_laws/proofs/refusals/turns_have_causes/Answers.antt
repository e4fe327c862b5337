use Rattle.run_laws.proofs.Causing.{turns_have_causes}
use Rattle.run_laws.proofs.refusals.turns_have_causes.Goals as goal

pub returns : goal.returns
returns c = turns_have_causes
