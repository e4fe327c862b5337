-- The first of some blocks, found from the last to the first.
use Rattle.std.specs.Prelude.{ℕ, List, [], ◌∷◌, Option, None, Some}
use Rattle.node_names.specs.declared.name.Name.{Name}
use Rattle.run_model.specs.Wanted.{lesser}
use Rattle.cache_rebuild.specs.Goals.{block_at}

-- the first of some names and one more, if there is one
abbrev pub least_on : List Name → Option Name → Option Name
least_on [] last = last
least_on (name ∷ names) last = Some (lesser name (least_on names last))

-- a block, if there is one, as a list
abbrev pub blocks_if : Option (ℕ × ℕ) → List Name
blocks_if None = []
blocks_if (Some place) = block_at place ∷ []

-- a name, if there is one, as a list
abbrev pub name_if : Option Name → List Name
name_if None = []
name_if (Some name) = name ∷ []
