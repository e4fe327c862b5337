-- Where a task goes.
use Rattle.std.specs.Prelude.{ℕ, zero, suc, ◌-◌, ◌==◌, max, Bool, true, false, List, [], ◌∷◌, ◌++◌, Option, None, Some, if◌then◌else◌}
use Rattle.std.specs.List.{filter, find, flat_map, list_any}
use Rattle.hal_base.specs.Shapes.{source_at}
use Rattle.hal_base.specs.declared.shape.Origin.{Origin}
use Rattle.hal_base.specs.declared.shape.Origin.TheVariants.{State, Prev, Table}
use Rattle.hal_base.specs.declared.shape.Source.{Source}
use Rattle.hal_base.specs.declared.shape.Shape.{Shape}
use Rattle.node_names.specs.declared.name.Name.{Name}
use Rattle.node_names.specs.declared.name.Name.TheVariants.{Out, Ric, Mic, Roc}
use Rattle.node_names.specs.declared.task.Task.{Task}
use Rattle.node_names.specs.declared.task.Task.TheVariants.{Map, Reduce, Test}
use Rattle.run_model.specs.Lists.{in_turn, number_of}
use Rattle.run_model.specs.Needs.{View}
use Rattle.run_model.specs.State.{Copy, holds}
use Rattle.run_model.specs.Tasks.{is_cached, last, last_outs, source_numbers, split}

-- the cache that a map's source may have of a block: where the source is a table with the mapper input cache
abbrev pub kept_block : Origin → Bool → ℕ → List Name
kept_block State keeps q = []
kept_block Prev keeps q = []
kept_block (Table t only) false q = []
kept_block (Table t only) true q = Mic t q ∷ []

-- the cache of the split of a source, if its source has one
abbrev pub kept_split : Option Source → ℕ → List Name
kept_split None q = []
kept_split (Some source) q = kept_block source.from source.mapper_input q

-- the node holds one of these names
abbrev pub holds_one : List Copy → List Name → ℕ → Bool
holds_one copies names node = list_any (holds copies node) names

-- the k-th of the holders, or of all nodes where there is no holder, counted round and round
abbrev pub in_turn_of : ℕ → List ℕ → List ℕ → Option ℕ
in_turn_of k [] nodes = in_turn k nodes
in_turn_of k (holder ∷ holders) nodes = in_turn k (holder ∷ holders)

-- the names that a reduce or a test favours
abbrev pub favoured : Shape → Task → List Name
favoured shape (Map i j s q) = []
favoured shape (Reduce i j p) = flat_map (λ s. if is_cached (source_at shape j s) then Ric j s p ∷ [] else []) (source_numbers shape j)
favoured shape (Test i p) = if shape.reducer_output then Out i (last shape) p ∷ Roc (i - 1) p ∷ [] else last_outs shape i

-- how many of these names the node holds
abbrev pub held_of : List Copy → List Name → ℕ → ℕ
held_of copies names node = number_of (holds copies node) names

-- the most of these names that one of the nodes holds
abbrev pub most : List Copy → List Name → List ℕ → ℕ
most copies names [] = 0
most copies names (n ∷ nodes) = max (held_of copies names n) (most copies names nodes)

-- the lowest of the nodes that hold so many of these names; where that is none of them, the p-th node, counted round and round
abbrev pub favourite : List Copy → List Name → ℕ → List ℕ → ℕ → Option ℕ
favourite copies names p nodes zero = in_turn p nodes
favourite copies names p nodes (suc n) = find (λ node. held_of copies names node == suc n) nodes

-- where a task goes, where some node is up and idle: a map to a holder of its split, a reduce or a test to the lowest
-- node with the most of what it favours
abbrev pub site_among : Shape → List Copy → Task → List ℕ → Option ℕ
site_among shape copies (Map i j s q) idle = in_turn_of q (filter (holds_one copies (split shape i j s q ++ kept_split (source_at shape j s) q)) idle) idle
site_among shape copies (Reduce i j p) idle = favourite copies (favoured shape (Reduce i j p)) p idle (most copies (favoured shape (Reduce i j p)) idle)
site_among shape copies (Test i p) idle = favourite copies (favoured shape (Test i p)) p idle (most copies (favoured shape (Test i p)) idle)

-- the site of a task; there is none where no node is up and idle
abbrev pub site : View → Task → Option ℕ
site view task = site_among view.shape view.copies task view.idle
