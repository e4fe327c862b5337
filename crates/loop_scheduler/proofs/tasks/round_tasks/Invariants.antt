use Rattle.loop_scheduler.proofs.Making.{steps_tasks, tasks_of_step}
use Rattle.loop_scheduler.proofs.Ranges.{Flowing}
use Rattle.loop_scheduler.proofs.tasks.round_tasks.Given as goal

abbrev pub invariant-steps : goal.invariant-steps
invariant-steps l = Flowing (tasks_of_step l.fn.shape l.fn.round) l.tasks l.step l.step-end (steps_tasks l.fn.shape l.fn.round)
