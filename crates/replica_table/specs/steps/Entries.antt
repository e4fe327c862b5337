-- The copies as the table keeps them: a list for each name.
use Rattle.std.specs.Prelude.{ℕ, ◌<◌, ◌≤◌, ◌==◌, nat_lt, if◌then◌else◌, Bool, List, [], ◌∷◌, ◌++◌, length, map, Option, None, Some}
use Rattle.std.specs.List.{filter, flat_map, AllByRecursion, IsDistinct}
use Rattle.std.specs.Map.{keys_of, lookup}
use Rattle.std.specs.declared.alloc.Global.{Global}
use Rattle.std.specs.declared.vec.Vec.{Vec}
use Rattle.node_names.specs.declared.digest.Digest.{Digest}
use Rattle.node_names.specs.declared.name.Name.{Name}
use Rattle.replica_table.specs.Copies.{Copy, copy_at, is_name}
use Rattle.replica_table.specs.Listing.{file_on}
use Rattle.replica_table.specs.Sets.{Ascend, among, members}
use Rattle.replica_table.specs.declared.copied.Copied.{Copied}
use Rattle.replica_table.specs.declared.file_on.FileOn.{FileOn}

-- ---- the copies of one name

abbrev pub copy_of : Name → Copied → Copy
copy_of name copied = copy_at name copied.node copied.digest

abbrev pub nodes_in : List Copied → List ℕ
nodes_in copies = map (λ copied. copied.node) copies

-- the digest of the copy on a node
abbrev pub found : ℕ → List Copied → Option Digest
found node [] = None
found node (copied ∷ copies) = if node == copied.node then Some copied.digest else found node copies

-- the copies but for the first, if it is on this node
abbrev pub behind : ℕ → List Copied → List Copied
behind node [] = []
behind node (copied ∷ copies) = if node == copied.node then copies else copied ∷ copies

-- the copies and one more: behind those on lower nodes, in the place of the one on its node
abbrev pub placed : Copied → List Copied → List Copied
placed new [] = new ∷ []
placed new (copied ∷ copies) = if nat_lt copied.node new.node then copied ∷ placed new copies else new ∷ behind new.node (copied ∷ copies)

-- ---- the copies of all names

abbrev pub Entries : Type 0
Entries = List (Name × Vec Copied Global)

abbrev pub copies_in : Entries → List Copy
copies_in entries = flat_map (λ e. map (copy_of e.0) e.1.items) entries

abbrev pub items_of : Option (Vec Copied Global) → List Copied
items_of None = []
items_of (Some list) = list.items

-- the copies of a name
abbrev pub listed : Name → Entries → List Copied
listed name entries = items_of (lookup (is_name name) entries)

-- a name has a copy, and its nodes ascend
pub record IsListed (nodes : ℕ) (entry : Name × Vec Copied Global) : Type 0 where
  pub held : 0 < length entry.1.items
  pub ascending : Ascend 0 nodes (nodes_in entry.1.items)

-- what holds of a table of so many nodes, of the set of those that are up and of its entries
pub record IsKept (nodes set : ℕ) (entries : Entries) : Type 0 where
  pub few : nodes ≤ 64
  pub up : Ascend 0 nodes (members set)
  pub each : AllByRecursion (IsListed nodes) entries
  pub once : IsDistinct is_name (keys_of entries)

-- ---- the files of copies

-- the files of a name on some nodes
abbrev pub files_on : Name → List ℕ → List Copied → List FileOn
files_on name nodes copies = map (λ (copied : Copied). file_on name copied.node) (filter (λ copied. among copied.node nodes) copies)

-- the files on some nodes of the names that pass a test
abbrev pub files_in : (Name → Bool) → List ℕ → Entries → List FileOn
files_in test nodes [] = []
files_in test nodes (e ∷ entries) = if test e.0 then files_on e.0 nodes e.1.items ++ files_in test nodes entries else files_in test nodes entries
