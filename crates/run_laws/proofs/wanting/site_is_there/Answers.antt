use Rattle.run_laws.proofs.Standstill.{site_is_there}
use Rattle.run_laws.proofs.wanting.site_is_there.Goals as goal

pub returns : goal.returns
returns c = site_is_there
