use Rattle.std.proofs.Common.{◌≡◌, ◌<◌, sym, ap, subst, ◌∙◌, arith}
use Rattle.std.specs.List.{AllByRecursion}
use Rattle.replica_table.specs.declared.copied.Copied.{Copied}
use Rattle.replica_table.specs.Copies.{Replicas, copy_at, with_copy}
use Rattle.replica_table.specs.steps.Entries.{IsListed, copies_in, copy_of, listed, placed}
use Rattle.replica_table.proofs.Keeping.{with_copy_in, with_list}
use Rattle.replica_table.proofs.table.Table.add.Goals as goal

pub invariant_of-self-2 : goal.invariant_of-self-2
invariant_of-self-2 c =
    let new : Copied = record { node = c.args.node; digest = c.args.digest.now } in
    let nodes = c.self.inside.nodes in
    let entries = c.self.inside.copies.entries in
    let within : c.args.node < nodes = omega (arith, c.requires, ap (λ (replicas : Replicas). replicas.nodes) c.self.view_is) in
    let list : c.in_ok-copies.copies.items ≡ placed new (listed c.args.name.now entries) = c.in_ok-copies.ensures ∙ ap (placed new) c.copies_of.ensures in
    record {
      few = c.self.invariant.few;
      up = c.self.invariant.up;
      each = subst (λ es. AllByRecursion (IsListed nodes) es) (sym c.in_ok-insert.ensures.entries) (with_list nodes c.args.name.now new c.in_ok-copies.copies entries within list c.self.invariant.each);
      once = c.in_ok-insert.ensures.unique;
    }

pub returns-clause-added : goal.returns-clause-added
returns-clause-added c =
    let new : Copied = record { node = c.args.node; digest = c.args.digest.now } in
    let nodes = c.self.inside.nodes in
    let entries = c.self.inside.copies.entries in
    let list : c.in_ok-copies.copies.items ≡ placed new (listed c.args.name.now entries) = c.in_ok-copies.ensures ∙ ap (placed new) c.copies_of.ensures in
    let added : copies_in c.insert.new.self.entries ≡ with_copy (copy_of c.args.name.now new) (copies_in entries) = ap copies_in c.in_ok-insert.ensures.entries ∙ with_copy_in nodes c.args.name.now new c.in_ok-copies.copies entries c.self.invariant.each c.self.invariant.once list in
    rw added (ap (λ (replicas : Replicas). record replicas { copies = with_copy (copy_at c.args.name.now c.args.node c.args.digest.now) replicas.copies }) c.self.view_is)
