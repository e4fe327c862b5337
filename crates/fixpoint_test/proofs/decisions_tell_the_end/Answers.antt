use Rattle.fixpoint_test.proofs.Deciding.{decisions_tell}
use Rattle.fixpoint_test.proofs.decisions_tell_the_end.Goals as goal

pub returns : goal.returns
returns c = decisions_tell
