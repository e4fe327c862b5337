use Rattle.std.proofs.Common.{rules, refl, not, ap, ◌&&◌}
use Rattle.replica_table.specs.Copies.{Replicas, but_those}
use Rattle.replica_table.specs.Sets.{among, members}
use Rattle.replica_table.proofs.Keeping.{retained}
use Rattle.replica_table.proofs.table.Table.strike_those.Goals as goal

pub invariant_of-self : goal.invariant_of-self
invariant_of-self g c = record {
  few = c.self.invariant.few;
  up = c.self.invariant.up;
  each = (retained _ c.self.inside.nodes (λ copy. not (g.T.NameTest.test c.args.test.now copy.name && among copy.node (members c.args.nodes.0))) (λ name copied. not (g.T.NameTest.test c.args.test.now name && among copied.node (members c.args.nodes.0))) (λ name copied. refl) _ (λ name v b w g call. search rules) _ _ c.self.invariant.each c.retain.ensures.filtered).1;
  once = c.retain.ensures.unique;
}

pub returns : goal.returns
returns g c =
    let kept = (retained _ c.self.inside.nodes (λ copy. not (g.T.NameTest.test c.args.test.now copy.name && among copy.node (members c.args.nodes.0))) (λ name copied. not (g.T.NameTest.test c.args.test.now name && among copied.node (members c.args.nodes.0))) (λ name copied. refl) _ (λ name v b w g call. search rules) _ _ c.self.invariant.each c.retain.ensures.filtered).0 in
    rw kept (ap (λ (replicas : Replicas). record replicas { copies = but_those (g.T.NameTest.test c.args.test.now) (members c.args.nodes.0) replicas.copies }) c.self.view_is)
