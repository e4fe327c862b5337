use Rattle.schedule_text.proofs.Outcomes.{one_outcome}
use Rattle.schedule_text.proofs.laws.each_text_has_one_outcome.Goals as goal

pub returns : goal.returns
returns c = one_outcome
