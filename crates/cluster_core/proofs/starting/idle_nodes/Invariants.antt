use Rattle.std.proofs.Common.{◌≡◌, ◌==◌, ◌||◌, nat_le, nat_lt}
use Rattle.std.specs.List.{filter}
use Rattle.replica_table.specs.Sets.{members}
use Rattle.run_model.specs.Lists.{number_of}
use Rattle.run_model.specs.declared.attempt.Attempt.{Attempt}
use Rattle.cluster_core.proofs.starting.idle_nodes.Given as goal

abbrev pub invariant-nodes : goal.invariant-nodes
invariant-nodes l = members l.idle.0 ≡ filter (λ n. nat_le l.node n || nat_lt (number_of (λ (a : Attempt). n == a.node) l.fn.running) l.fn.slots) l.fn.table.up
