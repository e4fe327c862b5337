use Rattle.std.proofs.Common.{sym, ◌∙◌}
use Rattle.std.proofs.lemmas.Bool.{le-ltb}
use Rattle.replica_table.proofs.Members.{among_members, not_among_members}
use Rattle.replica_table.proofs.node_set.NodeSet.has.Goals as goal

pub returns-then-node-lt64 : goal.returns-then-node-lt64
returns-then-node-lt64 c = c.has_bit.ensures ∙ sym (among_members c.args.self.now.0 c.args.node c.if-node-lt64.true)

pub returns-else-node-lt64 : goal.returns-else-node-lt64
returns-else-node-lt64 c = le-ltb c.args.node 64 c.if-node-lt64.false ∙ sym (not_among_members c.args.self.now.0 c.args.node c.if-node-lt64.false)
