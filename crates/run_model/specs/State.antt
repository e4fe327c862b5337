-- The cluster as plain lists: what its nodes hold and run, and what is still to come.
use Rattle.std.specs.Prelude.{ℕ, Bool, List, ◌++◌, map}
use Rattle.std.specs.List.{list_any}
use Rattle.hal_base.specs.declared.shape.Shape.{Shape}
use Rattle.node_names.specs.declared.name.Name.{Name}
use Rattle.replica_table.specs.Copies.{CopyWith, copy_at, is_at}
use Rattle.schedule_text.specs.declared.schedule.Event.{Event}
use Rattle.schedule_text.specs.declared.schedule.Schedule.{Schedule}
use Rattle.counter_report.specs.declared.journal.Entry.{Entry}
use Rattle.run_model.specs.declared.attempt.Attempt.{Attempt}
use Rattle.run_model.specs.declared.attempt.Failed.{Failed}

-- a copy of the file of a name on a node
abbrev pub Copy : Type 0
Copy = CopyWith (Unit {0})

-- a copy of a name on a node, of which no more is known
abbrev pub copy : Name → ℕ → Copy
copy name node = copy_at name node tt

-- copies without what is kept with them
abbrev pub bare : {A : Type 0} → List (CopyWith A) → List Copy
bare copies = map (λ it. copy it.name it.node) copies

-- what a run is given: the program's shape, and the schedule
pub record Setup : Type 0 where
  pub shape : Shape
  pub schedule : Schedule

-- the plain cluster: its round; the nodes that are up, and those that are marked busy, both ascending; the copies, by names in
-- the order in which they were first there, those of a name by their nodes; the running attempts in order of start; the parts
-- of the tests whose value is known, ascending; the failures of tasks in the order of their first; the events that are left;
-- and the journal
pub record PlainCluster : Type 0 where
  pub round : ℕ
  pub up : List ℕ
  pub marked : List ℕ
  pub copies : List Copy
  pub running : List Attempt
  pub known : List ℕ
  pub failures : List Failed
  pub events : List Event
  pub journal : List Entry

-- the node holds the name
abbrev pub holds : List Copy → ℕ → Name → Bool
holds copies node name = list_any (is_at name node) copies

-- ---- the state, with one thing changed

-- these lines come to the journal
abbrev pub noted : List Entry → PlainCluster → PlainCluster
noted lines c = record c { journal = c.journal ++ lines }

-- the cluster with these copies in place of its own
abbrev pub with_copies : List Copy → PlainCluster → PlainCluster
with_copies copies c = record c { copies = copies }
