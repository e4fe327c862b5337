use Rattle.task_values.proofs.Spills as law
use Rattle.task_values.proofs.sections.caches_serve.Goals as goal

pub returns : goal.returns
returns c = law.caches_serve
