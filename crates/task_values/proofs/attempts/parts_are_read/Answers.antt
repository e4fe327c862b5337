use Rattle.task_values.proofs.LastParts as law
use Rattle.task_values.proofs.attempts.parts_are_read.Goals as goal

pub returns : goal.returns
returns c = law.parts_read
