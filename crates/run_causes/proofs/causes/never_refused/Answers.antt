use Rattle.run_causes.proofs.Refusing.{never_refused}
use Rattle.run_causes.proofs.causes.never_refused.Goals as goal

pub returns : goal.returns
returns c = never_refused
