-- What a task makes of the lists that it reads.
use Rattle.std.specs.Prelude.{◌≡◌, ℕ, ◌==◌, true, not, List, [], map}
use Rattle.std.specs.List.{AllByRecursion, filter, flat_map}
use Rattle.hal_base.specs.declared.record.Record.{Record}
use Rattle.hal_base.specs.declared.shape.Shape.{Shape}
use Rattle.hal_base.specs.Meaning.{Meaning}
use Rattle.hal_base.specs.Order.{record_cmp}
use Rattle.hal_base.specs.Sorted.{sorted}
use Rattle.plain_job.specs.Distances.{distance_by}
use Rattle.plain_job.specs.Job.{job}
use Rattle.sorted_parts.specs.Spills.{spilled}
use Rattle.node_names.specs.declared.name.Name.{Name}
use Rattle.node_names.specs.declared.name.Name.TheVariants.{Blk, Spill, Out, Ric, Mic, Roc}
use Rattle.node_names.specs.declared.task.Task.{Task}
use Rattle.node_names.specs.declared.task.Task.TheVariants.{Map, Reduce, Test}
use Rattle.name_values.specs.Values.{Held, Parts, Rows, World, list_of, value_of}
use Rattle.run_model.specs.Tasks.{source_numbers}

-- a file that was read, and the list that its bytes stand for: of a spill the section of the task's part
pub record Answer : Type 0 where
  pub name : Name
  pub list : List Record

-- the part whose sections a task reads
abbrev pub part_in : Task → ℕ
part_in (Map i j s q) = 0
part_in (Reduce i j p) = p
part_in (Test i p) = p

-- ---- what was read of which file

-- all lists, one after another
abbrev pub all_lists : List Answer → List Record
all_lists answers = flat_map (λ (a : Answer). a.list) answers

-- the source that a file is of; 0 where it is of none
abbrev pub source_in : Name → ℕ
source_in (Blk t b) = 0
source_in (Spill i j s q) = s
source_in (Out i j p) = 0
source_in (Ric j s p) = s
source_in (Mic t b) = 0
source_in (Roc i p) = 0

-- the round that a file is of; 0 where it is of none
abbrev pub round_in : Name → ℕ
round_in (Blk t b) = 0
round_in (Spill i j s q) = i
round_in (Out i j p) = i
round_in (Ric j s p) = 0
round_in (Mic t b) = 0
round_in (Roc i p) = i

-- what was read of source s
abbrev pub of_source : ℕ → List Answer → List Answer
of_source s answers = filter (λ (a : Answer). source_in a.name == s) answers

-- what was read of round i
abbrev pub of_round : ℕ → List Answer → List Answer
of_round i answers = filter (λ (a : Answer). round_in a.name == i) answers

-- what was read of other rounds
abbrev pub of_others : ℕ → List Answer → List Answer
of_others i answers = filter (λ (a : Answer). not (round_in a.name == i)) answers

-- ---- what is made of it

-- what a reduce emits over what was read of each source
abbrev pub reduced : Meaning → Shape → ℕ → ℕ → List Answer → List Record
reduced m shape i j answers = job (m.reduce i j) (λ _. true) (map (λ s. all_lists (of_source s answers)) (source_numbers shape j))

-- what a map makes: its spill, and a cache of its block
abbrev pub made_by_map : Meaning → Shape → ℕ → ℕ → ℕ → List Answer → Name → Held
made_by_map m shape i j s answers (Spill i' j' s' q) = Parts (spilled m i j s (all_lists answers) shape.parts)
made_by_map m shape i j s answers (Mic t b) = Rows (all_lists answers)
made_by_map m shape i j s answers (Blk t b) = Rows []
made_by_map m shape i j s answers (Out i' j' p) = Rows []
made_by_map m shape i j s answers (Ric j' s' p) = Rows []
made_by_map m shape i j s answers (Roc i' p) = Rows []

-- what a reduce makes: its output, caches of sources, and a cache of its output
abbrev pub made_by_reduce : Meaning → Shape → ℕ → ℕ → List Answer → Name → Held
made_by_reduce m shape i j answers (Out i' j' p) = Rows (reduced m shape i j answers)
made_by_reduce m shape i j answers (Ric j' s p) = Rows (sorted record_cmp (all_lists (of_source s answers)))
made_by_reduce m shape i j answers (Roc i' p) = Rows (sorted record_cmp (reduced m shape i j answers))
made_by_reduce m shape i j answers (Blk t b) = Rows []
made_by_reduce m shape i j answers (Spill i' j' s q) = Rows []
made_by_reduce m shape i j answers (Mic t b) = Rows []

-- what a task makes for a file, from what it read; nothing for one that it does not make
abbrev pub computed : Meaning → Shape → Task → List Answer → Name → Held
computed m shape (Map i j s q) answers name = made_by_map m shape i j s answers name
computed m shape (Reduce i j p) answers name = made_by_reduce m shape i j answers name
computed m shape (Test i p) answers name = Rows []

-- how far the new parts that a test of round i read are from the old ones
abbrev pub tested : Meaning → ℕ → List Answer → ℕ
tested m i answers = distance_by m.distance (all_lists (of_others i answers)) (all_lists (of_round i answers))

-- ---- reads of values

-- the list of an answer is that of the value of its name, of a spill its section p
abbrev pub IsOfValue : World → ℕ → Answer → Type 0
IsOfValue w p a = a.list ≡ list_of p (value_of w a.name)

-- each list that was read is that of a value
abbrev pub AreOfValues : World → ℕ → List Answer → Type 0
AreOfValues w p answers = AllByRecursion (IsOfValue w p) answers
