use Rattle.std.proofs.Common.{sym, ap, subst, ◌∙◌, ◌<◌, All}
use Rattle.std.specs.List.{filter}
use Rattle.replica_table.specs.Copies.{Replicas, holders}
use Rattle.replica_table.specs.Sets.{Ascend, among, members}
use Rattle.replica_table.specs.declared.copied.Copied.{Copied}
use Rattle.replica_table.specs.steps.Entries.{nodes_in}
use Rattle.replica_table.proofs.Keeping.{all_below, listed_ascend, nodes_with_in}
use Rattle.replica_table.proofs.Members.{ascend_to, filter_ascend}
use Rattle.replica_table.proofs.table.Table.where_is.Goals as goal

pub nodes_of-requires-clause-ascending : goal.nodes_of-requires-clause-ascending
nodes_of-requires-clause-ascending c =
    let entries = c.self.inside.copies.entries in
    subst (λ copies. Ascend 0 64 (nodes_in copies)) (sym c.copies_of.ensures) (ascend_to 0 c.self.inside.nodes 64 _ c.self.invariant.few (listed_ascend c.self.inside.nodes c.args.name.now entries c.self.invariant.each))

pub nodes_of-requires-clause-below : goal.nodes_of-requires-clause-below
nodes_of-requires-clause-below c =
    let entries = c.self.inside.copies.entries in
    subst (λ copies. All (λ (copied : Copied). copied.node < 64) copies) (sym c.copies_of.ensures) (all_below 0 64 _ (ascend_to 0 c.self.inside.nodes 64 _ c.self.invariant.few (listed_ascend c.self.inside.nodes c.args.name.now entries c.self.invariant.each)))

pub returns-clause-nodes : goal.returns-clause-nodes
returns-clause-nodes c =
    let entries = c.self.inside.copies.entries in
    c.both.ensures
    ∙ ap (filter (λ node. among node (members c.self.inside.up.0))) (c.nodes_of.ensures ∙ ap nodes_in c.copies_of.ensures ∙ sym (nodes_with_in c.args.name.now entries c.self.invariant.once))
    ∙ ap (λ (replicas : Replicas). holders c.args.name.now replicas) c.self.view_is

pub returns-clause-order : goal.returns-clause-order
returns-clause-order c =
    let entries = c.self.inside.copies.entries in
    let listed = subst (λ ns. Ascend 0 c.self.inside.nodes ns) (sym (nodes_with_in c.args.name.now entries c.self.invariant.once)) (listed_ascend c.self.inside.nodes c.args.name.now entries c.self.invariant.each) in
    subst (λ (replicas : Replicas). Ascend 0 replicas.nodes (holders c.args.name.now replicas)) c.self.view_is
    (filter_ascend (λ node. among node (members c.self.inside.up.0)) 0 c.self.inside.nodes _ listed)
