-- Tests: what each of them finds, and that those of a round make its distance.
use Rattle.std.specs.Prelude.{◌≡◌, ℕ, ◌-◌, ◌≤◌, min, sum, Bool, true, false, List, map}
use Rattle.std.specs.List.{flat_map}
use Rattle.hal_base.specs.declared.record.Record.{Record}
use Rattle.plain_job.specs.Chain.{last_out, state_of, together}
use Rattle.plain_job.specs.Distances.{distance_by}
use Rattle.plain_job.specs.Ends.{round_distance}
use Rattle.node_names.specs.declared.name.Name.{Name}
use Rattle.node_names.specs.declared.name.Name.TheVariants.{Out, Roc}
use Rattle.name_values.specs.Values.{World, list_of, out_of, value_of}
use Rattle.run_model.specs.Lists.{below}
use Rattle.run_model.specs.Tasks.{last, last_outs, test_count}
use Rattle.task_values.specs.Worlds.{WorldFits}

-- how far the functions tell that new records are from old ones
abbrev pub far : World → List Record → List Record → ℕ
far w old new = distance_by w.means.distance old new

-- how far round i is from the round before: part p alone, or as a whole
abbrev pub test_by : World → ℕ → ℕ → Bool → ℕ
test_by w i p true = far w (out_of w (i - 1) (last w.shape) p) (out_of w i (last w.shape) p)
test_by w i p false = far w (state_of w.means w.shape w.tables i) (together (last_out w.means w.shape w.tables i))

-- the value of a test: with the reducer output cache that of its part, and else that of the whole
abbrev pub test_of : World → ℕ → ℕ → ℕ
test_of w i p = test_by w i p w.shape.reducer_output

-- ---- one test

-- the records of a file
abbrev pub rows_of : World → Name → List Record
rows_of w name = list_of 0 (value_of w name)

-- what a test finds from what it reads is its value
pub record TestIsMade (w : World) (i p : ℕ) : Type 0 where
  -- over its part, and the cache of the old one
  pub by_cache : w.shape.reducer_output ≡ true → far w (rows_of w (Roc (i - 1) p)) (rows_of w (Out i (last w.shape) p)) ≡ test_of w i p
  -- over its part, and the old one itself
  pub by_part : w.shape.reducer_output ≡ true → far w (rows_of w (Out (i - 1) (last w.shape) p)) (rows_of w (Out i (last w.shape) p)) ≡ test_of w i p
  -- over all parts, and all old ones
  pub by_all : w.shape.reducer_output ≡ false → far w (flat_map (rows_of w) (last_outs w.shape (i - 1))) (flat_map (rows_of w) (last_outs w.shape i)) ≡ test_of w i p

-- each test from round 2 on finds its value
abbrev pub TestsAreMade : Type 0
TestsAreMade = (w : World) (i p : ℕ) → 2 ≤ i → TestIsMade w i p

-- ---- the tests of a round

-- the values of the tests of round i
abbrev pub tests_of : World → ℕ → List ℕ
tests_of w i = map (test_of w i) (below (test_count w.shape))

-- from round 2 on the sum of the values of a round's tests, up to the greatest number, is the distance of the round
abbrev pub TestsMakeTheDistance : Type 0
TestsMakeTheDistance = (w : World) → WorldFits w → (i : ℕ) → 2 ≤ i → i ≤ w.shape.rounds → min (sum (tests_of w i)) 9223372036854775807 ≡ round_distance w.means w.shape w.tables i
