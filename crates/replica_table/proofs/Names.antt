-- Two names are one where they are equal.
use Rattle.std.proofs.Common.{◌≡◌, true, arith}
use Rattle.std.proofs.lemmas.Bool.Decides.{nat_tests}
use Rattle.node_names.specs.declared.name.Name.{Name}
use Rattle.node_names.specs.declared.name.Name.TheVariants.{Blk, Spill, Out, Ric, Mic, Roc}
use Rattle.replica_table.specs.Copies.{is_name}

pub same_by : (a b : Name) → is_name a b ≡ true → a ≡ b
same_by (Blk _ _) (Blk _ _) e = grind (arith, nat_tests)
same_by (Spill _ _ _ _) (Spill _ _ _ _) e = grind (arith, nat_tests)
same_by (Out _ _ _) (Out _ _ _) e = grind (arith, nat_tests)
same_by (Ric _ _ _) (Ric _ _ _) e = grind (arith, nat_tests)
same_by (Mic _ _) (Mic _ _) e = grind (arith, nat_tests)
same_by (Roc _ _) (Roc _ _) e = grind (arith, nat_tests)
same_by a b e = cc

pub itself : (a : Name) → is_name a a ≡ true
itself (Blk _ _) = grind (arith, nat_tests)
itself (Spill _ _ _ _) = grind (arith, nat_tests)
itself (Out _ _ _) = grind (arith, nat_tests)
itself (Ric _ _ _) = grind (arith, nat_tests)
itself (Mic _ _) = grind (arith, nat_tests)
itself (Roc _ _) = grind (arith, nat_tests)
