use Rattle.node_names.proofs.Words.{distinct_tasks}
use Rattle.node_names.proofs.laws.distinct_tasks_have_distinct_texts.Goals as goal

pub returns : goal.returns
returns c = distinct_tasks
