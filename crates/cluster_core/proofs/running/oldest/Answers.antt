use Rattle.std.proofs.Common.{sym, ◌∙◌}
use Rattle.cluster_core.proofs.Happening.{oldest_is}
use Rattle.cluster_core.proofs.running.oldest.Goals as goal

pub returns-in-Some : goal.returns-in-Some
returns-in-Some c = oldest_is c.args.running.now c.in-Some.node c.oldest_on.result (sym c.lowest_node.ensures ∙ c.in-Some.is) c.oldest_on.ensures
