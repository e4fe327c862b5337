-- What a task needs, input by input, and whether it is there.
use Rattle.std.proofs.Common.{◌≡◌, ℕ, ◌-◌, Bool, true, false, ◌&&◌, not, cond, List, [], ◌∷◌, ◌++◌, refl, sym, ap, append_assoc, map}
use Rattle.std.specs.List.{filter, flat_map, list_all, range_with_len}
use Rattle.hal_base.specs.Shapes.{source_at}
use Rattle.node_names.specs.declared.name.Name.{Name}
use Rattle.node_names.specs.declared.task.Task.{Task}
use Rattle.node_names.specs.declared.task.Task.TheVariants.{Map, Reduce, Test}
use Rattle.run_model.specs.Needs.{View, inputs, needs, reduce_input}
use Rattle.run_model.specs.Tasks.{is_cached, last_outs}
use Rattle.run_model.specs.Wanted.{is_empty}
use Rattle.cache_rebuild.specs.steps.Needing.{input_count, needed, source_needs, uncached}

-- ---- input by input

by_source : (view : View) (node i j p : ℕ) (ns : List ℕ) → flat_map (source_needs view node i j p) ns ≡ flat_map (uncached view node) (map (λ s. reduce_input view.shape i j p s (is_cached (source_at view.shape j s))) ns)
by_source view node i j p [] = refl
by_source view node i j p (s ∷ ns) = ap (λ names. source_needs view node i j p s ++ names) (by_source view node i j p ns)

by_parts : (view : View) (node i p : ℕ) (kept : Bool) → view.shape.reducer_output ≡ kept → flat_map (needed view node (Test i p)) (1 ∷ 2 ∷ []) ≡ flat_map (uncached view node) (inputs view.shape (Test i p))
by_parts view node i p true e = rw e refl
by_parts view node i p false e = rw e (sym (append_assoc (last_outs view.shape i) (last_outs view.shape (i - 1)) []))

-- what a task needs of its inputs is all that it needs
pub needs_by_input : (view : View) (node : ℕ) (task : Task) → flat_map (needed view node task) (range_with_len 1 (input_count view.shape task)) ≡ needs view.shape view.copies node task
needs_by_input view node (Map i j s q) = refl
needs_by_input view node (Reduce i j p) = by_source view node i j p (range_with_len 1 (input_count view.shape (Reduce i j p)))
needs_by_input view node (Test i p) = by_parts view node i p view.shape.reducer_output refl

-- nothing is missing where all is there
pub none_missing : (test : Name → Bool) (names : List Name) → list_all test names ≡ is_empty (filter (λ name. not (test name)) names)
none_missing test [] = refl
none_missing test (name ∷ names) = elim (test name) as (λ v. (v && list_all test names) ≡ is_empty (cond (not v) (name ∷ filter (λ name. not (test name)) names) (filter (λ name. not (test name)) names))) [
  | true ↦ none_missing test names
  | false ↦ refl
]
