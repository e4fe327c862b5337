use Rattle.plain_job.proofs.Parted.{parts}
use Rattle.plain_job.proofs.laws.parts_make_the_job.Goals as goal

pub returns : goal.returns
returns c = parts
