use Rattle.run_laws.proofs.Following.{decides_where_decided}
use Rattle.run_laws.proofs.turns.decides_where_decided.Goals as goal

pub returns : goal.returns
returns c = decides_where_decided
