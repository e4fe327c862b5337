-- The statuses, and what is left and said with each.
use Rattle.std.specs.Prelude.{◌≡◌, ◌≤◌, ℕ, ◌⊎◌, List, ◌∷◌, [], ◌++◌, Option, None, Some, IsSome}
use Rattle.counter_report.specs.Reports.{report_text}
use Rattle.counter_report.specs.Tallies.{tally}
use Rattle.counter_report.specs.declared.journal.EndWord.{EndWord}
use Rattle.counter_report.specs.declared.journal.Entry.{Entry}
use Rattle.counter_report.specs.declared.journal.Entry.TheVariants as entry
use Rattle.counter_report.specs.declared.report.End.{End as Reported}
use Rattle.counter_report.specs.declared.report.End.TheVariants as reported_end
use Rattle.counter_report.specs.declared.report.Report.{Report}
use Rattle.cache_conditions.specs.Conditions.{verdicts}
use Rattle.cache_conditions.specs.Texts.{check_text}
use Rattle.cluster_core.specs.Deciding.{chain_decision, end_of}
use Rattle.cluster_core.specs.Disks.{Leaves as LeavesDisks}
use Rattle.hal_base.specs.declared.record.Record.{Record}
use Rattle.hal_outside.specs.declared.disks.Disks.{Ghosts as Disks}
use Rattle.hal_outside.specs.declared.files.Files.{Ghosts as Files}
use Rattle.hal_outside.specs.declared.sink.Sink.{Ghosts as Sink}
use Rattle.hal_outside.specs.Told.{FileMap, OnTold, Rose}
use Rattle.hal_outside.specs.Calls.{Changes, FaultsRose, GainsPrefix, Tells}
use Rattle.loop_program.specs.Whole.{Whole}
use Rattle.node_names.specs.declared.task.Task.{Task}
use Rattle.plain_job.specs.declared.ending.End.{End}
use Rattle.plain_job.specs.declared.ending.End.TheVariants as end
use Rattle.run_laws.specs.Telling.{fails_at}
use Rattle.run_model.specs.Lists.{number_of}
use Rattle.run_model.specs.State.{PlainCluster}
use Rattle.schedule_text.specs.declared.schedule.Schedule.{Schedule}
use Rattle.valid_copies.specs.RightCalls.{RightCalls}
use Rattle.haloop_run.specs.Words.{Asked, AskFor, AskToCheck, IsUsage}
use Rattle.haloop_run.specs.Inputs.{ComesTo, HasProgram, Outcome, ProgramComesTo, absent, bad_program, bad_schedule, bad_table, complete, not_built}
use Rattle.haloop_run.specs.Lines.{device_line, memory_line, not_built_line, outcome_line, plain_report, task_line, usage_line}
use Rattle.haloop_run.specs.Outputs.{Leaves, LeavesPart, WritesParts, WritesSome}
use Rattle.haloop_run.specs.Replays.{ArePut, Ending, RunsTo, broken, computed, finished, missed, setup_of, task_failed}

-- the statuses of an input that is refused
abbrev pub IsRefusal : ℕ → Type 0
IsRefusal n = (n ≡ 2) ⊎ (n ≡ 3) ⊎ (n ≡ 4) ⊎ (n ≡ 11)

-- the statuses that there are
abbrev pub IsStatus : ℕ → Type 0
IsStatus n = (n ≡ 0) ⊎ (n ≡ 1) ⊎ (n ≡ 6) ⊎ (n ≡ 8) ⊎ (n ≡ 10) ⊎ (n ≡ 12) ⊎ IsRefusal n

-- those of `check`
abbrev pub IsCheckStatus : ℕ → Type 0
IsCheckStatus n = (n ≡ 0) ⊎ (n ≡ 2) ⊎ (n ≡ 8) ⊎ (n ≡ 10) ⊎ (n ≡ 11)

-- a call on disks was failed by a device
abbrev pub DisksFailed : {D : Type 0} → Disks D → D → D → Type 0
DisksFailed d old new = Rose (d.faults old) (d.faults new)

-- neither count of the disks fell
abbrev pub DiskCountsStay : {D : Type 0} → Disks D → D → D → Type 0
DiskCountsStay d old new = (d.faults old ≤ d.faults new) × (d.misses old ≤ d.misses new)

-- the words ask for a command, and the files, where they tell, come to this
abbrev pub InputIs : {F : Type 0} → Files F → List (List ℕ) → F → Outcome → Type 0
InputIs g words files it =
    ((asked : Asked) × AskFor words asked × ((told : FileMap) → Tells g files told → ComesTo told asked it))
    ⊎ ((program : List ℕ) × AskToCheck words program × ((told : FileMap) → Tells g files told → ProgramComesTo told program it))

-- ---- what a command leaves

-- the disks tell, and show their damage
abbrev pub AreTrue : {D : Type 0} → Disks D → D → Type 0
AreTrue d disks = d.shows_damage disks × IsSome (d.told disks)

-- a run of the cluster that so ended, in this state: one of the machine, under some decisions, and under those of the chain where
-- the disks are true; then each call writes the text of its name or asks for its digest; over sound disks no read missed; and of
-- nodes that the schedule does not have no file was put or taken away
pub record Ran {D : Type 0} (d : Disks D) (program : Whole) (schedule : Schedule) (tables : List (List Record)) (old new : D) (last : PlainCluster) (ending : Ending) : Type 0 where
  pub calls : (decisions : ℕ → Option EndWord) × RunsTo (setup_of program schedule tables) decisions (d.told old) (d.told new) last ending
  pub by_chain : AreTrue d old → RunsTo (setup_of program schedule tables) (chain_decision (computed program schedule tables)) (d.told old) (d.told new) last ending
  pub texts : AreTrue d old → OnTold (RightCalls (computed program schedule tables)) (d.told old) (d.told new)
  pub unmissed : d.sound old → IsSome (d.told old) → d.misses new ≡ d.misses old
  pub left : LeavesDisks d schedule.nodes old new

-- the run of a program with a schedule and tables, to which the files come where they tell
pub record RanTo {F D : Type 0} (g : Files F) (d : Disks D) (asked : Asked) (files : F) (old new : D) (ending : Ending) : Type 0 where
  pub program : Whole
  pub schedule : Schedule
  pub tables : List (List Record)
  pub comes : (told : FileMap) → Tells g files told → ComesTo told asked (complete program (Some schedule) tables)
  pub last : PlainCluster
  pub ran : Ran d program schedule tables old new last ending

-- where the disks are true, each copy that there is has the text of its name
abbrev pub HasCopies : {D : Type 0} → Disks D → Whole → Schedule → List (List Record) → D → D → PlainCluster → Type 0
HasCopies d program schedule tables old new last = AreTrue d old → OnTold (λ before after. ArePut (computed program schedule tables) last.copies after) (d.told old) (d.told new)

-- `plain` is done: its chain ended, and no call was made on disks
pub record IsPlainDone {F D : Type 0} (g : Files F) (asked : Asked) (old new : F) (held holds : D) (line : List ℕ) : Type 0 where
  pub rounds : ℕ
  pub end : End
  pub leaves : Changes g (Leaves asked rounds end) old new
  pub no_calls : holds ≡ held
  pub line_is : line ≡ plain_report rounds end

-- `run` is done: the loop is at its end, and the report is due. Part files are written and no others; where the disks are true
-- they are those of the chain, which ends in that round and so
pub record IsRunDone {F D : Type 0} (g : Files F) (d : Disks D) (asked : Asked) (old new : F) (held holds : D) (line : List ℕ) : Type 0 where
  pub word : EndWord
  pub to : RanTo g d asked old held holds (finished word)
  pub before_end : List Entry
  pub ended : to.last.journal ≡ before_end ++ entry.End word to.last.round ∷ []
  pub copies : HasCopies d to.program to.schedule to.tables held holds to.last
  pub parts : Changes g (WritesParts asked) old new
  pub chain : AreTrue d held → Changes g (Leaves asked to.last.round (end_of word)) old new
  pub line_is : line ≡ report_text (tally to.last.journal)

-- by whether a schedule is asked for
abbrev pub IsDoneBy : {F D : Type 0} → Files F → Disks D → Option (List ℕ) → Asked → F → F → D → D → List ℕ → Type 0
IsDoneBy g d None asked old new held holds line = IsPlainDone g asked old new held holds line
IsDoneBy g d (Some schedule) asked old new held holds line = IsRunDone g d asked old new held holds line

-- what is asked is done, and this is due on the sink
abbrev pub IsDone : {F D : Type 0} → Files F → Disks D → Asked → F → F → D → D → List ℕ → Type 0
IsDone g d asked old new held holds line = IsDoneBy g d asked.schedule asked old new held holds line

-- `check` is done: the line is the text of the verdicts on the program of this file
pub record IsChecked {F : Type 0} (g : Files F) (name : List ℕ) (files : F) (line : List ℕ) : Type 0 where
  pub program : Whole
  pub is : (told : FileMap) → Tells g files told → HasProgram told name program
  pub line_is : line ≡ check_text (verdicts program)

-- a task failed as often as the schedule allows, and its journal has a line of each failure
pub record IsTaskFailed {F D : Type 0} (g : Files F) (d : Disks D) (asked : Asked) (files : F) (held holds : D) (line : List ℕ) : Type 0 where
  pub task : Task
  pub to : RanTo g d asked files held holds (task_failed task)
  pub failures : number_of (fails_at task) to.last.journal ≡ to.schedule.attempts
  pub copies : HasCopies d to.program to.schedule to.tables held holds to.last
  pub line_is : line ≡ task_line task

-- a read missed, which it does over no sound disks
pub record IsMissed {F D : Type 0} (g : Files F) (d : Disks D) (asked : Asked) (files : F) (held holds : D) (line : List ℕ) : Type 0 where
  pub to : RanTo g d asked files held holds missed
  pub rose : Rose (d.misses held) (d.misses holds)
  pub not_sound : d.sound held → IsSome (d.told held) → ⊥
  pub line_is : line ≡ not_built_line

-- the end of a report, for an end of the chain
abbrev pub reported : End → Reported
reported end.Fixpoint = reported_end.Fixpoint
reported end.Close = reported_end.Close
reported end.Limit = reported_end.Limit

-- the line tells the round in which the chain ended, and how: the lines of `plain`, or a report
abbrev pub TellsEnd : Option (List ℕ) → ℕ → End → List ℕ → Type 0
TellsEnd None rounds end line = line ≡ plain_report rounds end
TellsEnd (Some schedule) rounds end line = (report : Report) × (report.rounds ≡ rounds) × (report.end ≡ reported end) × (line ≡ report_text report)

-- no call was made on disks, or those that were are the first of a run
abbrev pub BeganRun : {F D : Type 0} → Files F → Disks D → Asked → F → D → D → Type 0
BeganRun g d asked files held holds = (holds ≡ held) ⊎ RanTo g d asked files held holds broken

-- the files are as before, or some of the part files are written; of `plain`, and where the disks are true, those of the chain
abbrev pub LeavesSome : {F D : Type 0} → Files F → Disks D → Asked → F → F → D → Type 0
LeavesSome g d asked old new held = (g.told new ≡ g.told old) ⊎ (Changes g (WritesSome asked) old new × ((asked.schedule ≡ None) ⊎ AreTrue d held → Changes g (LeavesPart asked) old new))

-- ---- what is said

-- this status, unless a device failed or memory ran out
abbrev pub Answers : ℕ → ℕ → Type 0
Answers status result = (result ≡ status) ⊎ (result ≡ 8) ⊎ (result ≡ 10)

-- the status of an input; one that is complete may yet be refused in its run
abbrev pub AnswersTo : Outcome → ℕ → Type 0
AnswersTo (complete program None tables) result = Answers 0 result
AnswersTo (complete program (Some schedule) tables) result = (result ≡ 6) ⊎ (result ≡ 12) ⊎ Answers 0 result
AnswersTo (absent name) result = Answers 11 result
AnswersTo (bad_program line what) result = Answers 2 result
AnswersTo (bad_schedule line what) result = Answers 4 result
AnswersTo not_built result = Answers 12 result
AnswersTo (bad_table name what) result = Answers 3 result

-- a line that is due: that of a command that is done, or of what hindered it
pub data IsDue {F D : Type 0} (g : Files F) (d : Disks D) (words : List (List ℕ)) (old new : F) (held holds : D) (line : List ℕ) : Type 0 where
  of_done : (asked : Asked) → AskFor words asked → IsDone g d asked old new held holds line → IsDue g d words old new held holds line
  of_check : (program : List ℕ) → AskToCheck words program → IsChecked g program old line → IsDue g d words old new held holds line
  of_usage : IsUsage words → line ≡ usage_line → IsDue g d words old new held holds line
  of_input : (it : Outcome) → InputIs g words old it → line ≡ outcome_line it → IsDue g d words old new held holds line
  of_task : (asked : Asked) → AskFor words asked → IsTaskFailed g d asked old held holds line → IsDue g d words old new held holds line
  of_miss : (asked : Asked) → AskFor words asked → IsMissed g d asked old held holds line → IsDue g d words old new held holds line
  of_device : FaultsRose g old new ⊎ DisksFailed d held holds → line ≡ device_line → IsDue g d words old new held holds line
  of_memory : line ≡ memory_line → IsDue g d words old new held holds line

-- the sink has gained a prefix of a line that is due
abbrev pub GainsDue : {F D O : Type 0} → Files F → Disks D → Sink O → List (List ℕ) → F → F → D → D → O → O → Type 0
GainsDue g d h words old new held holds before after = (line : List ℕ) × IsDue g d words old new held holds line × GainsPrefix h before line after
