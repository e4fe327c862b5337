-- The order of files on nodes is total, and tells all of them apart.
use Rattle.std.specs.Prelude.{◌≡◌, ℕ}
use Rattle.std.specs.Cmp.{IsTotalOrder}
use Rattle.std.proofs.lemmas.Cmp.{nat_list_cmp_total, on_total}
use Rattle.std.proofs.lemmas.Map.Lookups.{CmpEqualImpliesEq, exact_bytes}
use Rattle.std.proofs.Common.{ap, ◌∙◌}
use Rattle.node_names.specs.declared.name.Name.{Name}
use Rattle.node_names.specs.declared.name.Name.TheVariants.{Blk, Spill, Out, Ric, Mic, Roc}
use Rattle.replica_table.specs.FileOrder.{file_cmp, place, place_of}
use Rattle.replica_table.specs.Listing.{file_on}

pub file_cmp_total : IsTotalOrder file_cmp
file_cmp_total = on_total place nat_list_cmp_total

same_place : (a b : Name) (m n : ℕ) → place_of a m ≡ place_of b n → (a ≡ b) × (m ≡ n)
same_place (Blk _ _) (Blk _ _) m n e = (cc, cc)
same_place (Spill _ _ _ _) (Spill _ _ _ _) m n e = (cc, cc)
same_place (Out _ _ _) (Out _ _ _) m n e = (cc, cc)
same_place (Ric _ _ _) (Ric _ _ _) m n e = (cc, cc)
same_place (Mic _ _) (Mic _ _) m n e = (cc, cc)
same_place (Roc _ _) (Roc _ _) m n e = (cc, cc)
same_place a b m n e = cc

pub file_cmp_exact : CmpEqualImpliesEq file_cmp
file_cmp_exact a b e =
    let both = same_place a.name b.name a.node b.node (exact_bytes (place a) (place b) e) in
    ap (λ name. file_on name a.node) both.0 ∙ ap (file_on b.name) both.1
