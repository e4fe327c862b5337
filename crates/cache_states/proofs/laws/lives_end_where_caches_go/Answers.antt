use Rattle.cache_states.proofs.Ending.{caches_go, stale_stays}
use Rattle.cache_states.proofs.laws.lives_end_where_caches_go.Goals as goal

pub returns-clause-stale : goal.returns-clause-stale
returns-clause-stale c = stale_stays

pub returns-clause-goes : goal.returns-clause-goes
returns-clause-goes c = caches_go
