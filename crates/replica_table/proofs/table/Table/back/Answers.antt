use Rattle.std.proofs.Common.{◌<◌, sym, ap, subst, arith}
use Rattle.replica_table.specs.Copies.{Replicas}
use Rattle.replica_table.specs.Sets.{Ascend, members}
use Rattle.replica_table.proofs.Members.{joined_ascend}
use Rattle.replica_table.proofs.table.Table.back.Goals as goal

pub invariant_of-self : goal.invariant_of-self
invariant_of-self c =
    let nodes = c.self.inside.nodes in
    let there : c.args.node < nodes = omega (arith, c.requires.there, ap (λ (replicas : Replicas). replicas.nodes) c.self.view_is) in
    record {
      few = c.self.invariant.few;
      up = subst (λ ns. Ascend 0 nodes ns) (sym c.with-self-inside.ensures) (joined_ascend 0 nodes c.args.node (members c.self.inside.up.0) (omega arith) there c.self.invariant.up);
      each = c.self.invariant.each;
      once = c.self.invariant.once;
    }
