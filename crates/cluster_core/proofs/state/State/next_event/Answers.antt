use Rattle.std.proofs.Common.{sym, ◌∙◌}
use Rattle.cluster_core.proofs.Happening.{next_is}
use Rattle.cluster_core.proofs.state.State.next_event.Goals as goal

pub returns : goal.returns
returns c = rw (sym c.self.view_is) (next_is c.self.inside.schedule.events c.self.inside.spent c.copied.result (c.copied.ensures ∙ c.get.ensures.value))
