-- What a journal tells of the end of a run and of failures.
use Rattle.std.specs.Prelude.{◌≡◌, Bool, false, List, [], ◌∷◌, ◌++◌, Option}
use Rattle.counter_report.specs.declared.journal.EndWord.{EndWord}
use Rattle.counter_report.specs.declared.journal.Entry.{Entry}
use Rattle.counter_report.specs.declared.journal.Entry.TheVariants.{Round, Start, Commit, Starve, Fail, Kill, Dropped, Struck, Lose, Back, Wipe, Busy, Idle, Skip, End}
use Rattle.node_names.specs.declared.task.Task.{Task}
use Rattle.run_model.specs.Acts.{failures_of}
use Rattle.run_model.specs.Lists.{number_of}
use Rattle.run_model.specs.PlanLaws.{Always}
use Rattle.run_model.specs.Plans.{Leaves, Made, gives}
use Rattle.run_model.specs.Runs.{state_of}
use Rattle.run_model.specs.State.{PlainCluster, Setup}
use Rattle.run_model.specs.Tasks.{is_task}
use Rattle.run_model.specs.Turns.{Turned, acted, ends, turn}

-- the last line of a run that is finished tells its end, and its round
abbrev pub TellsEnd : Turned → Type 0
TellsEnd (acted c) = Unit {0}
TellsEnd (ends c end) = (before : List Entry) × (c.journal ≡ before ++ End end c.round ∷ [])

-- so does each turn that finishes a run
abbrev pub EndsAreTold : Type 0
EndsAreTold = (setup : Setup) (decision : Option EndWord) (c : PlainCluster) (made : List Made) (turned : Turned) → Leaves (turn setup decision c) made (gives turned) → TellsEnd turned

-- a line that tells a failure of the task
abbrev pub fails_at : Task → Entry → Bool
fails_at task (Fail failed node count) = is_task task failed
fails_at task (Round round) = false
fails_at task (Start other node) = false
fails_at task (Commit other node local remote caches) = false
fails_at task (Starve other node) = false
fails_at task (Kill other node) = false
fails_at task (Dropped other node) = false
fails_at task (Struck name node) = false
fails_at task (Lose node) = false
fails_at task (Back node) = false
fails_at task (Wipe node) = false
fails_at task (Busy node) = false
fails_at task (Idle node) = false
fails_at task (Skip word number) = false
fails_at task (End end round) = false

-- each task has as many failures as the journal has lines of them
abbrev pub Failures : PlainCluster → Type 0
Failures c = (task : Task) → failures_of task c.failures ≡ number_of (fails_at task) c.journal

-- a turn keeps it so, also where the run is refused
abbrev pub FailuresAreTold : Type 0
FailuresAreTold = (setup : Setup) (decision : Option EndWord) (c : PlainCluster) → Failures c → Always (λ turned. Failures (state_of turned)) Failures (turn setup decision c)
