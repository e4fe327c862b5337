-- What a reduce and a test read, by sources and parts.
use Rattle.std.specs.Prelude.{ℕ, Bool, List, map, if◌then◌else◌}
use Rattle.std.specs.List.{list_all}
use Rattle.hal_base.specs.Shapes.{source_at}
use Rattle.hal_base.specs.declared.shape.Shape.{Shape}
use Rattle.node_names.specs.declared.name.Name.{Name}
use Rattle.run_model.specs.Needs.{Input, View, is_up, test_inputs}
use Rattle.run_model.specs.Tasks.{is_cached, spills}

-- the round whose spills a reduce of round i reads of a source: of a cached one it is the first
abbrev pub spill_round : Shape → ℕ → ℕ → ℕ → ℕ
spill_round shape i j s = if is_cached (source_at shape j s) then 1 else i

-- the spills that a reduce reads of a source
abbrev pub spills_read : Shape → ℕ → ℕ → ℕ → List Name
spills_read shape i j s = spills shape (spill_round shape i j s) j s

-- the files of each input of a test
abbrev pub parts_read : Shape → ℕ → ℕ → List (List Name)
parts_read shape i p = map (λ (it : Input). it.files) (test_inputs shape i p shape.reducer_output)

-- each of these files lies on an up node
abbrev pub all_up : View → List Name → Bool
all_up view names = list_all (is_up view.copies view.up) names
