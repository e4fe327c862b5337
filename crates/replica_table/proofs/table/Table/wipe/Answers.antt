use Rattle.std.proofs.Common.{rules, refl, not, nat_eq, ap}
use Rattle.replica_table.specs.Copies.{Replicas, but_node}
use Rattle.replica_table.proofs.Keeping.{retained}
use Rattle.replica_table.proofs.table.Table.wipe.Goals as goal

pub invariant_of-self : goal.invariant_of-self
invariant_of-self c = record {
  few = c.self.invariant.few;
  up = c.self.invariant.up;
  each = (retained _ c.self.inside.nodes (λ copy. not (nat_eq c.args.node copy.node)) (λ name copied. not (nat_eq c.args.node copied.node)) (λ name copied. refl) _ (λ name v b w g call. search rules) _ _ c.self.invariant.each c.retain.ensures.filtered).1;
  once = c.retain.ensures.unique;
}

pub returns : goal.returns
returns c =
    let kept = (retained _ c.self.inside.nodes (λ copy. not (nat_eq c.args.node copy.node)) (λ name copied. not (nat_eq c.args.node copied.node)) (λ name copied. refl) _ (λ name v b w g call. search rules) _ _ c.self.invariant.each c.retain.ensures.filtered).0 in
    rw kept (ap (λ (replicas : Replicas). record replicas { copies = but_node c.args.node replicas.copies }) c.self.view_is)
