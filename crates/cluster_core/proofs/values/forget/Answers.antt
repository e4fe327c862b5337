use Rattle.cluster_core.proofs.Known.{forgotten}
use Rattle.cluster_core.proofs.values.forget.Goals as goal

pub values-preserved : goal.values-preserved
values-preserved c = forgotten c.args.values.now c.values.values c.values.at c.values-test.true c.values.invariant
