use Rattle.plain_job.proofs.Keeps.{keeps}
use Rattle.plain_job.proofs.laws.sorting_keeps_the_job.Goals as goal

pub returns : goal.returns
returns c = keeps
