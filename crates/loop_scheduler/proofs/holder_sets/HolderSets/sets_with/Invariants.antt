use Rattle.std.proofs.Common.{◌≡◌, ◌+◌, ◌≤◌, drop, map}
use Rattle.replica_table.specs.Sets.{members}
use Rattle.replica_table.specs.declared.node_set.NodeSet.{NodeSet}
use Rattle.loop_scheduler.specs.steps.Choosing.{sets_with}
use Rattle.loop_scheduler.proofs.holder_sets.HolderSets.sets_with.Given as goal

abbrev pub invariant-sets : goal.invariant-sets
invariant-sets l = record {
  few : l.found ≤ l.set-index;
  all : l.found + sets_with (map (λ (it : NodeSet). members it.0) (drop l.set-index l.set-items)) l.node ≡ sets_with (map (λ (it : NodeSet). members it.0) l.set-items) l.node;
}
