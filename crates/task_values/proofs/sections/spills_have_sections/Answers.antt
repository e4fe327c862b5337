use Rattle.task_values.proofs.Spills as law
use Rattle.task_values.proofs.sections.spills_have_sections.Goals as goal

pub returns-clause-each : goal.returns-clause-each
returns-clause-each c = law.spills_have

pub returns-clause-merged : goal.returns-clause-merged
returns-clause-merged c = law.spills_make_section
