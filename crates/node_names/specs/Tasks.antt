-- The texts of tasks.
use Rattle.std.specs.Prelude.{◌≡◌, ℕ, List, [], ◌∷◌, codes}
use Rattle.node_names.specs.declared.task.Task.{Task}
use Rattle.node_names.specs.declared.task.Task.TheVariants.{Map, Reduce, Test}
use Rattle.node_names.specs.Worded.{AreSmall, worded}

-- the word of a task
abbrev pub task_word : Task → List ℕ
task_word (Map round step source split) = codes "map"
task_word (Reduce round step part) = codes "reduce"
task_word (Test round part) = codes "test"

-- the numbers of a task, from the left
abbrev pub numbers_in : Task → List ℕ
numbers_in (Map round step source split) = round ∷ step ∷ source ∷ split ∷ []
numbers_in (Reduce round step part) = round ∷ step ∷ part ∷ []
numbers_in (Test round part) = round ∷ part ∷ []

-- its word and its numbers, with `.` between
abbrev pub text_of_task : Task → List ℕ
text_of_task task = worded 46 (task_word task) (numbers_in task)

-- two tasks of one text are one task
abbrev pub DistinctTasks : Type 0
DistinctTasks = (a b : Task) → AreSmall (numbers_in a) → AreSmall (numbers_in b) → text_of_task a ≡ text_of_task b → a ≡ b
