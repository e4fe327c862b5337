use Rattle.plain_job.proofs.Once as once
use Rattle.plain_job.proofs.laws.chains_are_one.Goals as goal

pub returns : goal.returns
returns c = once.chains_are_one
