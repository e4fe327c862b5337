use Rattle.task_values.proofs.Attempting as law
use Rattle.task_values.proofs.attempts.attempts_are_right.Goals as goal

pub returns-clause-done : goal.returns-clause-done
returns-clause-done c = law.attempts_right

pub returns-clause-so_far : goal.returns-clause-so_far
returns-clause-so_far c = law.writes_right
