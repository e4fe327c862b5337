use Rattle.std.proofs.Common.{◌≡◌, drop}
use Rattle.cluster_core.specs.Running.{lowest_of}
use Rattle.cluster_core.proofs.Places.{with_lowest}
use Rattle.cluster_core.proofs.running.lowest_node.Given as goal

abbrev pub invariant-others : goal.invariant-others
invariant-others l = lowest_of l.running ≡ with_lowest l.lowest (drop l.attempt-index l.others)
