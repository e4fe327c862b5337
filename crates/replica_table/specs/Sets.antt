-- Sets of nodes.
use Rattle.std.specs.Prelude.{ℕ, ◌==◌, ◌+◌, ◌-◌, ◌<◌, ◌≤◌, not, Bool, List, [], ◌∷◌}
use Rattle.std.specs.Int.{bit_at}
use Rattle.std.specs.List.{filter, list_any, range_with_len}

-- node n is in the set of these bits: bit n is 1
abbrev pub is_in : ℕ → ℕ → Bool
is_in set node = bit_at set node == 1

-- the nodes of a set, from one on
unfoldable pub members_from : ℕ → ℕ → List ℕ
members_from first set = filter (λ node. is_in set node) (range_with_len first (64 - first))

-- the nodes of a set, ascending
abbrev pub members : ℕ → List ℕ
members set = members_from 0 set

-- the node is one of these
abbrev pub among : ℕ → List ℕ → Bool
among node nodes = list_any (λ other. node == other) nodes

-- the nodes but for one
abbrev pub but_one : ℕ → List ℕ → List ℕ
but_one node nodes = filter (λ other. not (node == other)) nodes

-- strictly ascending numbers, from a first one on and below an end
abbrev pub Ascend : ℕ → ℕ → List ℕ → Type 0
Ascend first end [] = Unit {0}
Ascend first end (n ∷ ns) = (first ≤ n) × (n < end) × Ascend (n + 1) end ns
