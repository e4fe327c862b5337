use Rattle.run_causes.proofs.Runs.{states_follow_the_schedule}
use Rattle.run_causes.proofs.states.states_follow_the_schedule.Goals as goal

pub returns : goal.returns
returns c = states_follow_the_schedule
