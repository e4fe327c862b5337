use Rattle.task_values.proofs.Spills as law
use Rattle.task_values.proofs.sections.spills_make_the_output.Goals as goal

pub returns : goal.returns
returns c = law.spills_make_output
