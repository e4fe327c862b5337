use Rattle.std.proofs.Common.{◌≡◌, ℕ, drop, ◌||◌, ◌==◌}
use Rattle.std.specs.List.{list_any}
use Rattle.replica_table.specs.declared.copied.Copied.{Copied}
use Rattle.replica_table.specs.Sets.{is_in}
use Rattle.replica_table.proofs.copied.nodes_of.Given as goal

abbrev pub invariant-copies : goal.invariant-copies
invariant-copies l = (q : ℕ) → (is_in l.bits q || list_any (λ (copied : Copied). q == copied.node) (drop l.copied-index l.copies)) ≡ list_any (λ (copied : Copied). q == copied.node) l.copies
