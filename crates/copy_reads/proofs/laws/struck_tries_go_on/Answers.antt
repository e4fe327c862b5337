use Rattle.copy_reads.proofs.StruckTries.{tries_go_on}
use Rattle.copy_reads.proofs.laws.struck_tries_go_on.Goals as goal

pub returns : goal.returns
returns c = tries_go_on
