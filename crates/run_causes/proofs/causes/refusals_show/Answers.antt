use Rattle.run_causes.proofs.Refusing.{refusals_show}
use Rattle.run_causes.proofs.causes.refusals_show.Goals as goal

pub returns : goal.returns
returns c = refusals_show
