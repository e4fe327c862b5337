-- The order of the copies: by names in the order in which they came, those of a name by their nodes.
use Rattle.std.specs.Prelude.{◌≡◌, ℕ, ◌<◌, Bool, false, List, [], ◌∷◌, MatchBool}
use Rattle.std.specs.List.{filter, list_any, AllByRecursion}
use Rattle.node_names.specs.declared.name.Name.{Name}
use Rattle.replica_table.specs.Copies.{Copy, CopyWith, is_name, names_of}

-- none of the copies is of this name
abbrev pub NoneOf : {A : Type 0} → Name → List (CopyWith A) → Type 0
NoneOf name copies = AllByRecursion (λ copy. is_name name copy.name ≡ false) copies

-- behind a copy comes one of its name on a higher node, or else none of its name
abbrev pub StandsBefore : {A : Type 0} → CopyWith A → List (CopyWith A) → Type 0
StandsBefore copy [] = Unit {0}
StandsBefore copy (next ∷ copies) = MatchBool (is_name copy.name next.name) (copy.node < next.node) (NoneOf copy.name copies)

-- the copies of each name stand together, by their nodes, ascending, and each node is below the number of nodes
abbrev pub AreInOrder : {A : Type 0} → ℕ → List (CopyWith A) → Type 0
AreInOrder nodes [] = Unit {0}
AreInOrder nodes (copy ∷ copies) = (copy.node < nodes) × StandsBefore copy copies × AreInOrder nodes copies

-- there is a copy of this name
abbrev pub has_copy : {A : Type 0} → Name → List (CopyWith A) → Bool
has_copy name copies = list_any (λ copy. is_name name copy.name) copies

-- where copies in order are taken away, the names of which a copy is left keep their order
abbrev pub NamesKeepTheirOrder : Type 0
NamesKeepTheirOrder = (nodes : ℕ) (stays : Copy → Bool) (copies : List Copy) → AreInOrder nodes copies
    → names_of (filter stays copies) ≡ filter (λ name. has_copy name (filter stays copies)) (names_of copies)
