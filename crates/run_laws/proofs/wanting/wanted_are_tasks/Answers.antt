use Rattle.run_laws.proofs.Opening.{wanted_are_tasks}
use Rattle.run_laws.proofs.wanting.wanted_are_tasks.Goals as goal

pub returns : goal.returns
returns c = wanted_are_tasks
