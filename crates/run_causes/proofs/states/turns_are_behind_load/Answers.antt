use Rattle.run_causes.proofs.BehindLoad.{turns_are_behind_load}
use Rattle.run_causes.proofs.states.turns_are_behind_load.Goals as goal

pub returns : goal.returns
returns c = turns_are_behind_load
