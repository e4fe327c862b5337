use Rattle.plain_job.proofs.ByNumbers.{by_numbers}
use Rattle.plain_job.proofs.laws.chains_are_by_numbers.Goals as goal

pub returns : goal.returns
returns c = by_numbers
