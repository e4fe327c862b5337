use Rattle.task_values.proofs.Spills as law
use Rattle.task_values.proofs.sections.caches_make_the_output.Goals as goal

pub returns : goal.returns
returns c = law.caches_make_output
