use Rattle.task_values.proofs.ValueSchemas as law
use Rattle.task_values.proofs.schemas.values_fit.Goals as goal

pub returns : goal.returns
returns c = law.values_fit
