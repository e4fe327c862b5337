use Rattle.std.proofs.Common.{◌≡◌, List, IfOk, subst, ap, ◌∙◌}
use Rattle.replica_table.specs.Copies.{Replicas}
use Rattle.replica_table.specs.Listing.{files_of, those}
use Rattle.replica_table.specs.Order.{AreInOrder}
use Rattle.replica_table.specs.Sets.{members}
use Rattle.replica_table.specs.declared.file_on.FileOn.{FileOn}
use Rattle.replica_table.proofs.Keeping.{files_in_are}
use Rattle.replica_table.proofs.Ordered.{in_order}
use Rattle.replica_table.proofs.table.Table.list_those.Goals as goal

pub returns-clause-listed : goal.returns-clause-listed
returns-clause-listed g c =
    let test = g.T.NameTest.test c.args.test.now in
    let nodes = members c.args.nodes.0 in
    subst (λ (made : List FileOn). IfOk c.files_of_those.result (λ files. files.items ≡ made))
    (files_in_are test nodes c.self.inside.copies.entries ∙ ap (λ (replicas : Replicas). files_of (those test nodes replicas.copies)) c.self.view_is) c.files_of_those.ensures

pub returns-clause-order : goal.returns-clause-order
returns-clause-order g c = subst (λ (replicas : Replicas). AreInOrder replicas.nodes replicas.copies) c.self.view_is (in_order c.self.inside.nodes c.self.inside.copies.entries c.self.invariant.each c.self.invariant.once)
