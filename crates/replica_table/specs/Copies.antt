-- Which nodes are up, and the copies of files on nodes, as a list.
use Rattle.std.specs.Prelude.{ℕ, ◌==◌, ◌&&◌, not, nat_lt, if◌then◌else◌, Bool, List, [], ◌∷◌, map, Option, None, Some}
use Rattle.std.specs.List.{filter}
use Rattle.node_names.specs.declared.digest.Digest.{Digest}
use Rattle.node_names.specs.declared.name.Name.{Name}
use Rattle.node_names.specs.contracts.name.NamePartialEq.TheImpl as same
use Rattle.replica_table.specs.Sets.{among}

-- a copy of the file of a name on a node, and what is kept with it
pub record CopyWith (A : Type 0) : Type 0 where
  pub name : Name
  pub node : ℕ
  pub kept : A

-- a copy with its digest
abbrev pub Copy : Type 0
Copy = CopyWith Digest

-- how many nodes there are, those that are up, ascending, and the copies on all nodes: by names in the order in which
-- they came, those of a name by their nodes, ascending
pub record Replicas : Type 0 where
  pub nodes : ℕ
  pub up : List ℕ
  pub copies : List Copy

-- two names are one
abbrev pub is_name : Name → Name → Bool
is_name = same.ghosts.eq

-- the copy of a name on a node
abbrev pub copy_at : {A : Type 0} → Name → ℕ → A → CopyWith A
copy_at name node kept = record { name = name; node = node; kept = kept }

-- it is the copy of this name on this node
abbrev pub is_at : {A : Type 0} → Name → ℕ → CopyWith A → Bool
is_at name node copy = is_name name copy.name && node == copy.node

-- ---- what is read

-- what is kept with the copy on a node
abbrev pub held : {A : Type 0} → Name → ℕ → List (CopyWith A) → Option A
held name node [] = None
held name node (copy ∷ copies) = if is_at name node copy then Some copy.kept else held name node copies

-- the copies of a name
abbrev pub of_name : {A : Type 0} → Name → List (CopyWith A) → List (CopyWith A)
of_name name copies = filter (λ copy. is_name name copy.name) copies

-- the nodes that hold a copy of a name
abbrev pub nodes_with : {A : Type 0} → Name → List (CopyWith A) → List ℕ
nodes_with name copies = map (λ copy. copy.node) (of_name name copies)

-- those of them that are up
abbrev pub up_holders : {A : Type 0} → Name → List ℕ → List (CopyWith A) → List ℕ
up_holders name up copies = filter (λ node. among node up) (nodes_with name copies)

-- the up nodes that hold a file of this name, in order
abbrev pub holders : Name → Replicas → List ℕ
holders name replicas = up_holders name replicas.up replicas.copies

-- the names of which there is a copy, each once, in the order in which they came
abbrev pub names_of : {A : Type 0} → List (CopyWith A) → List Name
names_of [] = []
names_of (copy ∷ copies) = copy.name ∷ filter (λ name. not (is_name copy.name name)) (names_of copies)

-- ---- what is changed

-- the copies but for the one of this name on this node
abbrev pub but_file : {A : Type 0} → Name → ℕ → List (CopyWith A) → List (CopyWith A)
but_file name node copies = filter (λ copy. not (is_at name node copy)) copies

-- the copies but for those on this node
abbrev pub but_node : {A : Type 0} → ℕ → List (CopyWith A) → List (CopyWith A)
but_node node copies = filter (λ copy. not (node == copy.node)) copies

-- the copies but for those on some nodes of the names that pass a test
abbrev pub but_those : {A : Type 0} → (Name → Bool) → List ℕ → List (CopyWith A) → List (CopyWith A)
but_those test nodes copies = filter (λ copy. not (test copy.name && among copy.node nodes)) copies

-- a new copy among those of its name, which come next: behind those on lower nodes, in the place of the one on its node
abbrev pub among_its_own : {A : Type 0} → CopyWith A → List (CopyWith A) → List (CopyWith A)
among_its_own new [] = new ∷ []
among_its_own new (copy ∷ copies) =
    if is_name new.name copy.name && nat_lt copy.node new.node then copy ∷ among_its_own new copies
    else if is_at new.name new.node copy then new ∷ copies
    else new ∷ copy ∷ copies

-- the copies and one more: among those of its name, or last where there is none
abbrev pub with_copy : {A : Type 0} → CopyWith A → List (CopyWith A) → List (CopyWith A)
with_copy new [] = new ∷ []
with_copy new (copy ∷ copies) = if is_name new.name copy.name then among_its_own new (copy ∷ copies) else copy ∷ with_copy new copies
