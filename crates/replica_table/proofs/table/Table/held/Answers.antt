use Rattle.std.proofs.Common.{sym, ap, ◌∙◌}
use Rattle.replica_table.specs.Copies.{Replicas, held}
use Rattle.replica_table.specs.steps.Entries.{found}
use Rattle.replica_table.proofs.Keeping.{held_in}
use Rattle.replica_table.proofs.table.Table.held.Goals as goal

pub returns : goal.returns
returns c =
    let entries = c.self.inside.copies.entries in
    c.digest_on.ensures
    ∙ ap (found c.args.node) c.copies_of.ensures
    ∙ sym (held_in c.args.name.now c.args.node entries c.self.invariant.once)
    ∙ ap (λ (replicas : Replicas). held c.args.name.now c.args.node replicas.copies) c.self.view_is
