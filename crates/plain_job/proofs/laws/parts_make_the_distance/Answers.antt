use Rattle.plain_job.proofs.DistanceParts.{parts_sum}
use Rattle.plain_job.proofs.KeyParts.{keys_stand, parts_make}
use Rattle.plain_job.proofs.TellDistance.{tell_the_distance}
use Rattle.plain_job.proofs.laws.parts_make_the_distance.Goals as goal

pub returns-clause-sum : goal.returns-clause-sum
returns-clause-sum c = parts_sum

pub returns-clause-keys : goal.returns-clause-keys
returns-clause-keys c = keys_stand

pub returns-clause-rounds : goal.returns-clause-rounds
returns-clause-rounds c = parts_make

pub returns-clause-functions : goal.returns-clause-functions
returns-clause-functions c = tell_the_distance
