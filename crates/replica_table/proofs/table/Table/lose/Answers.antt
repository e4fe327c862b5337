use Rattle.std.proofs.Common.{not, ◌==◌, sym, subst}
use Rattle.replica_table.specs.Sets.{Ascend, members}
use Rattle.replica_table.proofs.Members.{filter_ascend}
use Rattle.replica_table.proofs.table.Table.lose.Goals as goal

pub invariant_of-self : goal.invariant_of-self
invariant_of-self c =
    let nodes = c.self.inside.nodes in
    record {
      few = c.self.invariant.few;
      up = subst (λ ns. Ascend 0 nodes ns) (sym c.without-self-inside.ensures) (filter_ascend (λ other. not (c.args.node == other)) 0 nodes (members c.self.inside.up.0) c.self.invariant.up);
      each = c.self.invariant.each;
      once = c.self.invariant.once;
    }
