use Rattle.cluster_core.proofs.Beginning.{first_plain}
use Rattle.cluster_core.proofs.state.State.in_first_round.Goals as goal

pub returns-clause-plain : goal.returns-clause-plain
returns-clause-plain c = first_plain c.args.shape c.args.schedule c.args.table c.in_ok-values.values.items c.new.result.items c.new-2.result.items c.in_ok-journal.journal c.requires.table c.in_ok-values.ensures c.new.ensures.items c.new-2.ensures.items c.in_ok-journal.ensures
