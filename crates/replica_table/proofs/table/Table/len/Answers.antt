use Rattle.std.proofs.Common.{subst, sym, ap, length, ◌∙◌}
use Rattle.replica_table.specs.Copies.{Replicas, names_of}
use Rattle.replica_table.specs.Order.{AreInOrder}
use Rattle.replica_table.proofs.Keeping.{keys_length, names_in}
use Rattle.replica_table.proofs.Ordered.{in_order}
use Rattle.replica_table.proofs.table.Table.len.Goals as goal

pub returns-clause-names : goal.returns-clause-names
returns-clause-names c =
    let entries = c.self.inside.copies.entries in
    c.len.ensures.len
    ∙ sym (ap length (names_in c.self.inside.nodes entries c.self.invariant.each c.self.invariant.once) ∙ keys_length entries)
    ∙ ap (λ (replicas : Replicas). length (names_of replicas.copies)) c.self.view_is

pub returns-clause-order : goal.returns-clause-order
returns-clause-order c = subst (λ (replicas : Replicas). AreInOrder replicas.nodes replicas.copies) c.self.view_is (in_order c.self.inside.nodes c.self.inside.copies.entries c.self.invariant.each c.self.invariant.once)
