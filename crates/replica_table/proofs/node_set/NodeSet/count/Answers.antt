use Rattle.std.proofs.Common.{rules}
use Rattle.replica_table.proofs.Members.{count_members}
use Rattle.replica_table.proofs.node_set.NodeSet.count.Goals as goal

pub returns : goal.returns
returns c = count_members c.args.self.now.0 (search rules)
