use Rattle.std.proofs.Common.{◌≡◌, ◌||◌, ◌==◌, List, [], drop, sym, ap, ◌∙◌}
use Rattle.std.specs.List.{list_any}
use Rattle.std.proofs.lemmas.List.{at_drop_all}
use Rattle.replica_table.specs.declared.copied.Copied.{Copied}
use Rattle.replica_table.specs.Sets.{is_in}
use Rattle.replica_table.specs.steps.Entries.{nodes_in}
use Rattle.replica_table.proofs.Keeping.{any_node}
use Rattle.replica_table.proofs.Members.{members_are, or_false}
use Rattle.replica_table.proofs.copied.nodes_of.Goals as goal

pub returns : goal.returns
returns c =
    let copies = c.args.copies.now in
    let none : drop c.copies.copied-index copies ≡ [] = at_drop_all (λ left. left) copies c.copies.copied-index c.copies-test.false in
    members_are c.copies.bits (nodes_in copies) c.requires.ascending (λ q low.
    sym (ap (λ (left : List Copied). is_in c.copies.bits q || list_any (λ (copied : Copied). q == copied.node) left) none ∙ or_false (is_in c.copies.bits q))
    ∙ c.copies.invariant q
    ∙ sym (any_node q copies))
