use Rattle.run_laws.proofs.ToldByJournals.{failures_are_told}
use Rattle.run_laws.proofs.telling.failures_are_told.Goals as goal

pub returns : goal.returns
returns c = failures_are_told
