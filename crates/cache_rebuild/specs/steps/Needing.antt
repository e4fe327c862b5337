-- What a task needs at a node, input by input.
use Rattle.std.specs.Prelude.{ℕ, ◌-◌, ◌==◌, Bool, true, false, ◌&&◌, List, [], ◌∷◌, if◌then◌else◌}
use Rattle.hal_base.specs.Shapes.{source_at, step_at}
use Rattle.hal_base.specs.declared.shape.Shape.{Shape}
use Rattle.node_names.specs.declared.name.Name.{Name}
use Rattle.node_names.specs.declared.name.Name.TheVariants.{Out, Roc}
use Rattle.node_names.specs.declared.task.Task.{Task}
use Rattle.node_names.specs.declared.task.Task.TheVariants.{Map, Reduce, Test}
use Rattle.run_model.specs.Needs.{Input, View, holds_cache, reduce_input, unless}
use Rattle.run_model.specs.State.{holds}
use Rattle.run_model.specs.Tasks.{is_cached, last, last_outs, source_count, split}

-- how many inputs a task has, where a test has the new parts and the old ones
abbrev pub input_count : Shape → Task → ℕ
input_count shape (Map i j s q) = 1
input_count shape (Reduce i j p) = source_count (step_at shape j)
input_count shape (Test i p) = 2

-- the files of an input, but for those that a cache on the node stands for
abbrev pub uncached : View → ℕ → Input → List Name
uncached view node it = unless (holds_cache view.copies node it.cache) it.files

-- what a reduce needs of a source
abbrev pub source_needs : View → ℕ → ℕ → ℕ → ℕ → ℕ → List Name
source_needs view node i j p s = uncached view node (reduce_input view.shape i j p s (is_cached (source_at view.shape j s)))

-- the parts that a test reads of what a round gave: its own where the output is cached, else all
abbrev pub parts_if : Shape → ℕ → ℕ → Bool → List Name
parts_if shape i p true = Out i (last shape) p ∷ []
parts_if shape i p false = last_outs shape i

-- the same by the shape's own mark of the output cache
abbrev pub parts_of : Shape → ℕ → ℕ → List Name
parts_of shape i p = parts_if shape i p shape.reducer_output

-- what a test needs of the round before
abbrev pub old_needs : View → ℕ → ℕ → ℕ → List Name
old_needs view node i p = unless (view.shape.reducer_output && holds view.copies node (Roc (i - 1) p)) (parts_of view.shape (i - 1) p)

-- what a task needs of an input
abbrev pub needed : View → ℕ → Task → ℕ → List Name
needed view node (Map i j s q) n = split view.shape i j s q
needed view node (Reduce i j p) n = source_needs view node i j p n
needed view node (Test i p) n = if n == 1 then parts_of view.shape i p else old_needs view node i p
