use Rattle.std.proofs.Common.{◌∙◌}
use Rattle.cluster_core.proofs.Happening.{got_at, taken_out}
use Rattle.cluster_core.proofs.running.take_out.Goals as goal

pub returns-clause-left : goal.returns-clause-left
returns-clause-left c = c.remove.ensures.by_index.2 ∙ taken_out c.args.running.now.items c.args.at c.remove.result (got_at c.args.running.now.items c.args.at c.remove.result c.requires.place c.remove.ensures.value) c.requires.once
