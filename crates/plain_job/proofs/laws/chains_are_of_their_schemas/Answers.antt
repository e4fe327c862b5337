use Rattle.plain_job.proofs.Schemas.{of_their_schemas}
use Rattle.plain_job.proofs.laws.chains_are_of_their_schemas.Goals as goal

pub returns : goal.returns
returns c = of_their_schemas
