use Rattle.task_values.proofs.Splits as law
use Rattle.task_values.proofs.sections.splits_make_the_source.Goals as goal

pub returns-clause-files : goal.returns-clause-files
returns-clause-files c = law.files_are

pub returns-clause-source : goal.returns-clause-source
returns-clause-source c = law.splits_make
