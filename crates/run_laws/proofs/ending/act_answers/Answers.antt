use Rattle.run_laws.proofs.Undecided.{act_answers}
use Rattle.run_laws.proofs.ending.act_answers.Goals as goal

pub returns : goal.returns
returns c = act_answers
