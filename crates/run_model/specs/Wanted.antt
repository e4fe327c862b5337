-- The tasks that are wanted, whether a task is ready, and the first block that is missing.
use Rattle.std.specs.Prelude.{ℕ, ◌==◌, nat_lt, nat_le, Bool, true, false, ◌&&◌, ◌||◌, not, List, [], ◌∷◌, ◌++◌, map, Option, None, Some, if◌then◌else◌}
use Rattle.std.specs.List.{filter, flat_map, list_any}
use Rattle.node_names.specs.declared.name.Name.{Name}
use Rattle.node_names.specs.declared.name.Name.TheVariants.{Blk, Spill, Out, Ric, Mic, Roc}
use Rattle.node_names.specs.declared.task.Task.{Task}
use Rattle.node_names.specs.declared.task.Task.TheVariants.{Reduce, Test}
use Rattle.replica_table.specs.Sets.{among}
use Rattle.run_model.specs.Lists.{IsIn, below}
use Rattle.run_model.specs.Needs.{View, is_up, missing}
use Rattle.run_model.specs.Sites.{site}
use Rattle.run_model.specs.Tasks.{is_task, last, maker, tasks_until, test_count}

-- what is to be reached: the round, and the tests of it whose value is known
pub record Goal : Type 0 where
  pub round : ℕ
  pub known : List ℕ

-- ---- the least set

-- the reduces of the round's last step whose part lies on no up node
abbrev pub missing_parts : View → ℕ → List Task
missing_parts view i = map (Reduce i (last view.shape)) (filter (λ p. not (is_up view.copies view.up (Out i (last view.shape) p))) (below view.shape.parts))

-- from round 2 on, the tests whose value is not known
abbrev pub unknown_tests : View → Goal → List Task
unknown_tests view goal = if nat_le 2 goal.round then map (Test goal.round) (filter (λ p. not (among p goal.known)) (below (test_count view.shape))) else []

-- the tasks that a round wants for itself: those of missing parts, and those of unknown tests
abbrev pub goals : View → Goal → List Task
goals view goal = missing_parts view goal.round ++ unknown_tests view goal

-- a task, if there is one, as a list
abbrev pub listed : Option Task → List Task
listed None = []
listed (Some task) = task ∷ []

-- what is missing of a task at its site, if it has one
abbrev pub missing_at : View → Task → Option ℕ → List Name
missing_at view task None = []
missing_at view task (Some node) = missing view node task

-- the needs of a task that are not there at its site
abbrev pub missing_of : View → Task → List Name
missing_of view task = missing_at view task (site view task)

-- the tasks that make what is missing of a task at its site
abbrev pub asked_by : View → Task → List Task
asked_by view task = flat_map (λ name. listed (maker name)) (missing_of view task)

-- the wanted tasks: the least set that has the goals in it and, for each task in it, the tasks that make its missing needs
pub data IsWanted (view : View) (goal : Goal) : Task → Type 0 where
  is_goal : (task : Task) → IsIn task (goals view goal) → IsWanted view goal task
  is_asked : (task by : Task) → IsWanted view goal by → IsIn task (asked_by view by) → IsWanted view goal task

-- ---- the same, by one walk from the last task to the first

-- a walk over tasks: those that are asked for, and those that were found, in task order
pub record Walked : Type 0 where
  pub asked : List Task
  pub found : List Task

-- looks at a task: one that is asked for is found, and asks for others
abbrev pub looked_at : View → Task → Walked → Bool → Walked
looked_at view task w false = w
looked_at view task w true = record { asked = asked_by view task ++ w.asked; found = task ∷ w.found }

-- what is asked for and found once all of these tasks were looked at, the last one first
abbrev pub walk : View → List Task → List Task → Walked
walk view [] asked = record { asked = asked; found = [] }
walk view (task ∷ tasks) asked = looked_at view task (walk view tasks asked) (list_any (is_task task) (walk view tasks asked).asked)

-- the wanted tasks in task order
abbrev pub wanted : View → Goal → List Task
wanted view goal = (walk view (tasks_until view.shape goal.round) (goals view goal)).found

-- ---- ready tasks

-- there is nothing in it
abbrev pub is_empty : {A : Type 0} → List A → Bool
is_empty [] = true
is_empty (x ∷ xs) = false

-- the task has a node to run on, and can read there what it needs
abbrev pub ready_at : View → Task → Option ℕ → Bool
ready_at view task None = false
ready_at view task (Some node) = is_empty (missing view node task)

-- the task has a site, and all its needs are there
abbrev pub ready : View → Task → Bool
ready view task = ready_at view task (site view task)

-- ---- missing blocks

-- the blocks among these names
abbrev pub block_in : Name → List Name
block_in (Blk t b) = Blk t b ∷ []
block_in (Spill i j s q) = []
block_in (Out i j p) = []
block_in (Ric j s p) = []
block_in (Mic t b) = []
block_in (Roc i p) = []

-- the blocks that wanted maps need and that are not there
abbrev pub missing_blocks : View → Goal → List Name
missing_blocks view goal = flat_map (λ task. flat_map block_in (missing_of view task)) (wanted view goal)

-- the lesser of two blocks, by table and block
abbrev pub lesser_block : Name → Name → Name
lesser_block (Blk t b) (Blk t' b') = if nat_lt t t' || ((t == t') && nat_le b b') then Blk t b else Blk t' b'
lesser_block a b = a

-- the lesser of a name and another one, if there is one
abbrev pub lesser : Name → Option Name → Name
lesser a None = a
lesser a (Some b) = lesser_block a b

-- the first of some blocks by table and block
abbrev pub least_name : List Name → Option Name
least_name [] = None
least_name (a ∷ names) = Some (lesser a (least_name names))

-- the least name among the wanted blocks that no up node holds
abbrev pub first_missing_block : View → Goal → Option Name
first_missing_block view goal = least_name (missing_blocks view goal)
