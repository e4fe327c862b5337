use Rattle.cache_conditions.proofs.Keeping.{distances_local, sources_stay, tables_stay}
use Rattle.cache_conditions.proofs.laws.caches_keep_what_would_be_made.Goals as goal

pub returns-clause-reducer_input : goal.returns-clause-reducer_input
returns-clause-reducer_input c = sources_stay

pub returns-clause-mapper_input : goal.returns-clause-mapper_input
returns-clause-mapper_input c = tables_stay

pub returns-clause-reducer_output : goal.returns-clause-reducer_output
returns-clause-reducer_output c = distances_local
