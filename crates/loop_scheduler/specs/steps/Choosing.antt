-- The holders of names, and nodes by how many of some sets each is in.
use Rattle.std.specs.Prelude.{ℕ, zero, suc, ◌==◌, max, List, [], ◌∷◌, Option, None, Some, map, if◌then◌else◌}
use Rattle.std.specs.List.{find, flat_map}
use Rattle.hal_base.specs.Shapes.{source_at}
use Rattle.hal_base.specs.declared.shape.Shape.{Shape}
use Rattle.replica_table.specs.Copies.{up_holders}
use Rattle.replica_table.specs.Sets.{among}
use Rattle.node_names.specs.declared.name.Name.{Name}
use Rattle.node_names.specs.declared.name.Name.TheVariants.{Ric}
use Rattle.run_model.specs.Lists.{in_turn, number_of}
use Rattle.run_model.specs.Needs.{View}
use Rattle.run_model.specs.Tasks.{is_cached, source_numbers}

-- the up nodes that hold a name, if there is one
abbrev pub holders_if : View → Option Name → List ℕ
holders_if view None = []
holders_if view (Some name) = up_holders name view.up view.copies

-- the cache that a part of a step may have of a source
abbrev pub cache_at : Shape → ℕ → ℕ → ℕ → List Name
cache_at shape j p s = if is_cached (source_at shape j s) then Ric j s p ∷ [] else []

-- the caches of a part of a step: what a reduce favours
abbrev pub cache_names : Shape → ℕ → ℕ → List Name
cache_names shape j p = flat_map (cache_at shape j p) (source_numbers shape j)

-- the up nodes that hold a name, for each of some names
abbrev pub holders_of : View → List Name → List (List ℕ)
holders_of view names = map (λ name. up_holders name view.up view.copies) names

-- in how many of the sets a node is
abbrev pub sets_with : List (List ℕ) → ℕ → ℕ
sets_with sets node = number_of (among node) sets

-- the most of a count among nodes
abbrev pub most_by : (ℕ → ℕ) → List ℕ → ℕ
most_by count [] = 0
most_by count (n ∷ nodes) = max (count n) (most_by count nodes)

-- the first of the nodes that has so many, where that is any
abbrev pub first_with : (ℕ → ℕ) → ℕ → List ℕ → Option ℕ
first_with count zero nodes = None
first_with count (suc n) nodes = find (λ node. count node == suc n) nodes

-- the first of the nodes that has the most, where it has any
abbrev pub first_in_most : List (List ℕ) → List ℕ → Option ℕ
first_in_most sets nodes = first_with (sets_with sets) (most_by (sets_with sets) nodes) nodes

-- this node, or else the k-th, counted round and round
abbrev pub or_in_turn : Option ℕ → ℕ → List ℕ → Option ℕ
or_in_turn (Some node) k nodes = Some node
or_in_turn None k nodes = in_turn k nodes
