use Rattle.haloop_run.proofs.CheckLaws as law
use Rattle.haloop_run.proofs.top.haloop_top.Goals as goal

pub returns-clause-status : goal.returns-clause-status
returns-clause-status g c = law.status _ _ _ _ _ _ _ _ _ _ _ c.perform.ensures.performed

pub returns-clause-headline : goal.returns-clause-headline
returns-clause-headline g c = law.headline _ _ _ _ _ _ _ _ _ _ _ c.perform.ensures.performed

pub returns-clause-done : goal.returns-clause-done
returns-clause-done g c = law.done _ _ _ _ _ _ _ _ _ _ _ c.perform.ensures.performed

pub returns-clause-checked : goal.returns-clause-checked
returns-clause-checked g c = law.checked _ _ _ _ _ _ _ _ _ _ _ c.perform.ensures.performed

pub returns-clause-check_status : goal.returns-clause-check_status
returns-clause-check_status g c = law.check_status_is _ _ _ _ _ _ _ _ _ _ _ c.perform.ensures.performed

pub returns-clause-check_keeps : goal.returns-clause-check_keeps
returns-clause-check_keeps g c = law.check_keeps _ _ _ _ _ _ _ _ _ _ _ c.perform.ensures.performed

pub returns-clause-check_answered : goal.returns-clause-check_answered
returns-clause-check_answered g c = law.check_answered _ _ _ _ _ _ _ _ _ _ _ c.perform.ensures.performed

pub returns-clause-usage : goal.returns-clause-usage
returns-clause-usage g c = law.usage _ _ _ _ _ _ _ _ _ _ _ c.perform.ensures.performed

pub returns-clause-refused : goal.returns-clause-refused
returns-clause-refused g c = law.refused _ _ _ _ _ _ _ _ _ _ _ c.perform.ensures.performed

pub returns-clause-absents_rose : goal.returns-clause-absents_rose
returns-clause-absents_rose g c = law.absents_rose _ _ _ _ _ _ _ _ _ _ _ c.perform.ensures.performed

pub returns-clause-no_calls : goal.returns-clause-no_calls
returns-clause-no_calls g c = law.no_calls _ _ _ _ _ _ _ _ _ _ _ c.perform.ensures.performed

pub returns-clause-task_failed : goal.returns-clause-task_failed
returns-clause-task_failed g c = law.task_failed _ _ _ _ _ _ _ _ _ _ _ c.perform.ensures.performed

pub returns-clause-not_built : goal.returns-clause-not_built
returns-clause-not_built g c = law.not_built_yet _ _ _ _ _ _ _ _ _ _ _ c.perform.ensures.performed

pub returns-clause-kept : goal.returns-clause-kept
returns-clause-kept g c = law.kept _ _ _ _ _ _ _ _ _ _ _ c.perform.ensures.performed

pub returns-clause-device : goal.returns-clause-device
returns-clause-device g c = law.device _ _ _ _ _ _ _ _ _ _ _ c.perform.ensures.performed

pub returns-clause-device_said : goal.returns-clause-device_said
returns-clause-device_said g c = law.device_said _ _ _ _ _ _ _ _ _ _ _ c.perform.ensures.performed

pub returns-clause-memory_said : goal.returns-clause-memory_said
returns-clause-memory_said g c = λ e. law.said_due _ _ _ _ _ _ _ _ _ _ _ c.perform.ensures.performed

pub returns-clause-partly : goal.returns-clause-partly
returns-clause-partly g c = λ e. law.left _ _ _ _ _ _ _ _ _ _ _ c.perform.ensures.performed

pub returns-clause-began : goal.returns-clause-began
returns-clause-began g c = λ e. law.began _ _ _ _ _ _ _ _ _ _ _ c.perform.ensures.performed

pub returns-clause-unmissed : goal.returns-clause-unmissed
returns-clause-unmissed g c = law.unmissed _ _ _ _ _ _ _ _ _ _ _ c.perform.ensures.performed

pub returns-clause-usage_answered : goal.returns-clause-usage_answered
returns-clause-usage_answered g c = law.usage_answered _ _ _ _ _ _ _ _ _ _ _ c.perform.ensures.performed

pub returns-clause-answered : goal.returns-clause-answered
returns-clause-answered g c = law.answered _ _ _ _ _ _ _ _ _ _ _ c.perform.ensures.performed
