-- What a command came to, what it left, and what was said of it.
use Rattle.std.specs.Prelude.{◌≡◌, ℕ, ◌⊎◌, List, None, Some, Result, Ok, Err}
use Rattle.counter_report.specs.Reports.{report_text}
use Rattle.cluster_core.specs.declared.fault.CoreFault.{CoreFault}
use Rattle.cluster_core.specs.declared.fault.CoreFault.TheVariants as core
use Rattle.hal_outside.specs.declared.disks.Disks.{Ghosts as Disks}
use Rattle.hal_outside.specs.declared.files.Files.{Ghosts as Files}
use Rattle.hal_outside.specs.declared.sink.Sink.{Ghosts as Sink}
use Rattle.hal_outside.specs.declared.faults.FileFault.{FileFault}
use Rattle.hal_outside.specs.declared.faults.FileFault.TheVariants as file
use Rattle.hal_outside.specs.Told.{FileMap}
use Rattle.hal_outside.specs.Faults.{AtFileDevice}
use Rattle.hal_outside.specs.Calls.{AbsentsRose, FaultsRose, Gains, GainsPrefix, Tells, WritesFailed}
use Rattle.haloop_run.specs.declared.fault.CommandFault.{CommandFault}
use Rattle.haloop_run.specs.declared.fault.CommandFault.TheVariants.{Refused, Stopped, Failed}
use Rattle.haloop_run.specs.declared.fault.RunFault.{RunFault}
use Rattle.haloop_run.specs.declared.fault.RunFault.TheVariants.{TaskFailed, Missed}
use Rattle.haloop_run.specs.declared.run.Done.{Done}
use Rattle.haloop_run.specs.declared.run.Done.TheVariants.{Plain, Run}
use Rattle.haloop_run.specs.Words.{Asked, AskFor, IsUsage}
use Rattle.haloop_run.specs.Inputs.{ComesTo, Outcome, absent, bad_program, bad_schedule, bad_table, complete, not_built}
use Rattle.haloop_run.specs.Lines.{device_line, memory_line, not_built_line, outcome_line, plain_report, status_of, task_line, usage_line}
use Rattle.haloop_run.specs.Statuses.{BeganRun, DisksFailed, IsDone, IsMissed, IsTaskFailed, LeavesSome}
use Rattle.haloop_run.specs.steps.Inputs.{AtAbsent, Judged, outcome_of}

-- ---- faults

-- the fault of a command whose run of the cluster is refused
abbrev pub run_refused : CoreFault → CommandFault
run_refused (core.TaskFailed task) = Stopped (TaskFailed task)
run_refused core.NotBuilt = Stopped Missed
run_refused (core.Device device) = Failed (file.Device device)
run_refused core.Memory = Failed file.Memory

-- the line of why a run is refused
abbrev pub line_of_stop : RunFault → List ℕ
line_of_stop (TaskFailed task) = task_line task
line_of_stop Missed = not_built_line

-- its status
abbrev pub status_of_stop : RunFault → ℕ
status_of_stop (TaskFailed task) = 6
status_of_stop Missed = 12

-- the lines of a command that is done
abbrev pub text_of_done : Done → List ℕ
text_of_done (Plain rounds end) = plain_report rounds end
text_of_done (Run report) = report_text report

-- ---- what a command came to

-- a run of the cluster is refused
abbrev pub IsStopped : {F D : Type 0} → Files F → Disks D → Asked → F → D → D → RunFault → Type 0
IsStopped g d asked files held holds (TaskFailed task) = IsTaskFailed g d asked files held holds (task_line task)
IsStopped g d asked files held holds Missed = IsMissed g d asked files held holds not_built_line

-- nothing but a complete input comes to this
abbrev pub OnlyComplete : {F : Type 0} → Files F → Asked → F → Type 0
OnlyComplete g asked files = (told : FileMap) → Tells g files told → (it : Outcome) → ComesTo told asked it → status_of it ≡ 0

-- the input is complete, with a schedule
abbrev pub IsRunInput : Outcome → Type 0
IsRunInput (complete program None tables) = ⊥
IsRunInput (complete program (Some schedule) tables) = Unit {0}
IsRunInput (absent name) = ⊥
IsRunInput (bad_program line what) = ⊥
IsRunInput (bad_schedule line what) = ⊥
IsRunInput not_built = ⊥
IsRunInput (bad_table name what) = ⊥

-- nothing but such an input comes to this
abbrev pub OnlyRun : {F : Type 0} → Files F → Asked → F → Type 0
OnlyRun g asked files = (told : FileMap) → Tells g files told → (it : Outcome) → ComesTo told asked it → IsRunInput it

-- what a command came to, and what it left: it is done; its input is refused; its run is; or a call failed or memory ran out
abbrev pub CameTo : {F D : Type 0} → Files F → Disks D → Asked → F → F → D → D → Result Done CommandFault → Type 0
CameTo g d asked old new held holds (Ok done) = IsDone g d asked old new held holds (text_of_done done) × OnlyComplete g asked old
CameTo g d asked old new held holds (Err (Refused fault)) =
    (g.told new ≡ g.told old) × (holds ≡ held) × ((told : FileMap) → Tells g old told → Judged asked told (outcome_of fault)) × AtAbsent fault (AbsentsRose g old new)
CameTo g d asked old new held holds (Err (Stopped fault)) = (g.told new ≡ g.told old) × IsStopped g d asked old held holds fault × OnlyRun g asked old
CameTo g d asked old new held holds (Err (Failed fault)) =
    AtFileDevice fault (FaultsRose g old new ⊎ DisksFailed d held holds) × LeavesSome g d asked old new held × BeganRun g d asked old held holds

-- ---- what was said

-- a prefix of the line was written, or one of the line of want of memory in its place
abbrev pub SaidPart : {O : Type 0} → Sink O → List ℕ → O → O → Type 0
SaidPart h line old new = GainsPrefix h old line new ⊎ GainsPrefix h old memory_line new

-- the line was written, with this status, or the sink failed at it, or memory ran out at it or before it
abbrev pub Said : {O : Type 0} → Sink O → ℕ → List ℕ → O → O → ℕ → Type 0
Said h status line old new result = ((result ≡ status) × Gains h old line new) ⊎ ((result ≡ 8) × WritesFailed h old new × SaidPart h line old new) ⊎ ((result ≡ 10) × SaidPart h line old new)

-- the status of a call that failed
abbrev pub failed_status : FileFault → ℕ
failed_status (file.Device d) = 8
failed_status file.Memory = 10

-- its line
abbrev pub failed_line : FileFault → List ℕ
failed_line (file.Device d) = device_line
failed_line file.Memory = memory_line

-- the status of why a command is not done
abbrev pub fault_status_of : CommandFault → ℕ
fault_status_of (Refused fault) = status_of (outcome_of fault)
fault_status_of (Stopped fault) = status_of_stop fault
fault_status_of (Failed fault) = failed_status fault

-- its line
abbrev pub fault_line_of : CommandFault → List ℕ
fault_line_of (Refused fault) = outcome_line (outcome_of fault)
fault_line_of (Stopped fault) = line_of_stop fault
fault_line_of (Failed fault) = failed_line fault

-- the status of what a command came to
abbrev pub done_status : Result Done CommandFault → ℕ
done_status (Ok done) = 0
done_status (Err fault) = fault_status_of fault

-- its line
abbrev pub done_line : Result Done CommandFault → List ℕ
done_line (Ok done) = text_of_done done
done_line (Err fault) = fault_line_of fault

-- the words ask for a command, which came to something, and that was said
pub record Performed {F D O : Type 0} (g : Files F) (d : Disks D) (h : Sink O) (words : List (List ℕ)) (old new : F) (held holds : D) (before after : O) (result : ℕ) : Type 0 where
  pub asked : Asked
  pub ask_for : AskFor words asked
  pub done : Result Done CommandFault
  pub came : CameTo g d asked old new held holds done
  pub said : Said h (done_status done) (done_line done) before after result

-- the words are those of no command, and that was said
abbrev pub NoCommand : {F D O : Type 0} → Files F → Sink O → List (List ℕ) → F → F → D → D → O → O → ℕ → Type 0
NoCommand g h words old new held holds before after result = IsUsage words × (g.told new ≡ g.told old) × (holds ≡ held) × Said h 1 usage_line before after result
