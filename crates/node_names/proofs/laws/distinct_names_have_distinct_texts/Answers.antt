use Rattle.node_names.proofs.Words.{distinct_names}
use Rattle.node_names.proofs.laws.distinct_names_have_distinct_texts.Goals as goal

pub returns : goal.returns
returns c = distinct_names
