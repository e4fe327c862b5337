use Rattle.task_values.proofs.Attempting as law
use Rattle.task_values.proofs.attempts.readings_are_right.Goals as goal

pub returns : goal.returns
returns c = law.readings_right
