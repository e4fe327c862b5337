use Rattle.std.proofs.Common.{◌≡◌, slice_get}
use Rattle.replica_table.specs.Sets.{members, members_from}
use Rattle.replica_table.proofs.node_set.NodeSet.nth.Given as goal

abbrev pub invariant-nodes : goal.invariant-nodes
invariant-nodes l = slice_get (members_from l.node l.bits) l.left ≡ slice_get (members l.bits) l.fn.k
