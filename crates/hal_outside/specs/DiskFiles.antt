-- The files of nodes: from a node and a name to bytes.
use Rattle.std.specs.Prelude.{ℕ, Bool, false, not, nat_eq, List, [], ◌∷◌, Option}
use Rattle.std.specs.Ordering.{nat_cmp}
use Rattle.std.specs.Cmp.Lexicographic.{slice_cmp}
use Rattle.std.specs.FinMap as map
use Rattle.node_names.specs.declared.name.Name.{Name}
use Rattle.node_names.specs.declared.name.NameKind.{NameKind}
use Rattle.node_names.specs.declared.name.NameKind.TheVariants as kind
use Rattle.node_names.specs.Names.{kind_of, numbers_of}

-- the place of a sort among all sorts of names
abbrev pub kind_number : NameKind → ℕ
kind_number kind.Blk = 0
kind_number kind.Spill = 1
kind_number kind.Out = 2
kind_number kind.Ric = 3
kind_number kind.Mic = 4
kind_number kind.Roc = 5

-- what tells a file from all others: its node, the sort of its name, and the numbers of its name
abbrev pub file_key : ℕ → Name → List ℕ
file_key node name = node ∷ kind_number (kind_of name) ∷ numbers_of name

-- from what tells a file to its bytes
abbrev pub DiskMap : Type 0
DiskMap = map.FinMap (slice_cmp nat_cmp) (List ℕ)

-- the bytes of a file, if there is one
abbrev pub file_at : DiskMap → ℕ → Name → Option (List ℕ)
file_at files node name = map.get files (file_key node name)

-- the files, this one set to these bytes
abbrev pub with_file : DiskMap → ℕ → Name → List ℕ → DiskMap
with_file files node name bytes = map.insert files (file_key node name) bytes

-- the files but this one
abbrev pub without_file : DiskMap → ℕ → Name → DiskMap
without_file files node name = map.remove files (file_key node name)

-- whether the file of this key is on the node
abbrev pub is_on : ℕ → List ℕ → Bool
is_on node [] = false
is_on node (first ∷ numbers) = nat_eq node first

-- the files but those of a node
abbrev pub without_node : DiskMap → ℕ → DiskMap
without_node files node = map.retain_keys files (λ key. not (is_on node key))
