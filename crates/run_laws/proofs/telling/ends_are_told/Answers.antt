use Rattle.run_laws.proofs.ToldByJournals.{ends_are_told}
use Rattle.run_laws.proofs.telling.ends_are_told.Goals as goal

pub returns : goal.returns
returns c = ends_are_told
