use Rattle.run_laws.proofs.Ends.{turns_by_calls}
use Rattle.run_laws.proofs.turns.turns_by_calls.Goals as goal

pub returns : goal.returns
returns c = turns_by_calls
