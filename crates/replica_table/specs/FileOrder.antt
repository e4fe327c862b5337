-- The order of files on nodes: by the kind of the name, its numbers from the left, and then the node.
use Rattle.std.specs.Prelude.{ℕ, List, [], ◌∷◌}
use Rattle.std.specs.Ordering.{nat_cmp}
use Rattle.std.specs.declared.cmp.Ordering.{Ordering}
use Rattle.std.specs.Cmp.Lexicographic.{slice_cmp}
use Rattle.node_names.specs.declared.name.Name.{Name}
use Rattle.node_names.specs.declared.name.Name.TheVariants.{Blk, Spill, Out, Ric, Mic, Roc}
use Rattle.replica_table.specs.declared.file_on.FileOn.{FileOn}

-- the numbers by which files are compared
abbrev pub place_of : Name → ℕ → List ℕ
place_of (Blk t b) node = 0 ∷ t ∷ b ∷ node ∷ 0 ∷ 0 ∷ []
place_of (Spill i j s q) node = 1 ∷ i ∷ j ∷ s ∷ q ∷ node ∷ []
place_of (Out i j p) node = 2 ∷ i ∷ j ∷ p ∷ node ∷ 0 ∷ []
place_of (Ric j s p) node = 3 ∷ j ∷ s ∷ p ∷ node ∷ 0 ∷ []
place_of (Mic t b) node = 4 ∷ t ∷ b ∷ node ∷ 0 ∷ 0 ∷ []
place_of (Roc i p) node = 5 ∷ i ∷ p ∷ node ∷ 0 ∷ 0 ∷ []

-- what orders a file: its name and then its node
abbrev pub place : FileOn → List ℕ
place it = place_of it.name it.node

-- files in order of their names, and of one name in order of their nodes
abbrev pub file_cmp : FileOn → FileOn → Ordering
file_cmp a b = slice_cmp nat_cmp (place a) (place b)
