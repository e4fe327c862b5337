use Rattle.std.proofs.lemmas.Result.{IfOk-weaker}
use Rattle.schedule_text.proofs.Limits.{keeps_limits}
use Rattle.schedule_text.proofs.reading.read_schedule.Goals as goal

pub returns-clause-limits : goal.returns-clause-limits
returns-clause-limits c = IfOk-weaker c.read_parts.result _ _ (λ schedule it. keeps_limits c.args.text.now schedule it) c.read_parts.ensures.accepted
