-- What the steps of reading the input find, and why they stop.
use Rattle.std.specs.Prelude.{◌≡◌, ◌≢◌, ℕ, ◌⊎◌, List, ◌∷◌, ◌++◌, Option, None, Some}
use Rattle.std.specs.FinMap as map
use Rattle.hal_base.specs.declared.fields.Schema.{Schema}
use Rattle.hal_base.specs.declared.record.Record.{Record}
use Rattle.hal_base.specs.declared.table.TableFault.{TableFault}
use Rattle.hal_base.specs.declared.table.TableFault.TheVariants as table_fault
use Rattle.hal_base.specs.TableFaults.{HasTableFault}
use Rattle.hal_outside.specs.declared.files.Files.{Ghosts}
use Rattle.hal_outside.specs.declared.faults.FileFault.TheVariants as file
use Rattle.hal_outside.specs.Told.{FileMap}
use Rattle.hal_outside.specs.Faults.{AtFileDevice}
use Rattle.hal_outside.specs.Calls.{AbsentsRose, FaultsRose, Tells}
use Rattle.program_sketch.specs.declared.fault.What.{What}
use Rattle.program_sketch.specs.declared.fault.ProgramFault.{ProgramFault}
use Rattle.program_sketch.specs.declared.fault.ProgramFault.TheVariants.{At, Memory}
use Rattle.loop_program.specs.Programs.{IsJustProgram, IsRefusedBy}
use Rattle.loop_program.specs.Whole.{Whole}
use Rattle.haloop_run.specs.declared.fault.InputFault.{InputFault}
use Rattle.haloop_run.specs.declared.fault.InputFault.TheVariants.{Absent, BadProgram, BadSchedule, NotBuilt, BadTable}
use Rattle.haloop_run.specs.declared.fault.CommandFault.{CommandFault}
use Rattle.haloop_run.specs.declared.fault.CommandFault.TheVariants.{Refused, Stopped, Failed}
use Rattle.run_laws.specs.WithoutLoss.{AreQuiet}
use Rattle.schedule_text.specs.Faults.{HasFault}
use Rattle.schedule_text.specs.Schedules.{IsTextOf, KeepsLimits}
use Rattle.schedule_text.specs.declared.fault.ScheduleFault.{ScheduleFault}
use Rattle.schedule_text.specs.declared.fault.ScheduleFault.TheVariants as schedule
use Rattle.schedule_text.specs.declared.fault.ScheduleWhat.{ScheduleWhat}
use Rattle.schedule_text.specs.declared.schedule.Schedule.{Schedule}
use Rattle.haloop_run.specs.Words.{Asked}
use Rattle.haloop_run.specs.Inputs.{Outcome, absent, bad_program, bad_schedule, not_built, bad_table, ComesTo, HaveTables, Listed, tables_of}
use Rattle.haloop_run.specs.Lines.{status_of}

-- ---- why a step stops

-- what the input comes to where this is wrong with it
abbrev pub outcome_of : InputFault → Outcome
outcome_of (Absent name) = absent name
outcome_of (BadProgram line what) = bad_program line what
outcome_of (BadSchedule line what) = bad_schedule line what
outcome_of NotBuilt = not_built
outcome_of (BadTable name what) = bad_table name what

-- p where a file is absent
abbrev pub AtAbsent : InputFault → Type 0 → Type 0
AtAbsent (Absent name) p = p
AtAbsent (BadProgram line what) p = Unit {0}
AtAbsent (BadSchedule line what) p = Unit {0}
AtAbsent NotBuilt p = Unit {0}
AtAbsent (BadTable name what) p = Unit {0}

-- the fault of a command whose program is refused
abbrev pub program_refused : ProgramFault → CommandFault
program_refused (At line what) = Refused (BadProgram line what)
program_refused Memory = Failed file.Memory

-- the same of one whose schedule is refused
abbrev pub schedule_refused : ScheduleFault → CommandFault
schedule_refused (schedule.At line what) = Refused (BadSchedule line what)
schedule_refused schedule.Memory = Failed file.Memory

-- why a step stops: what the files told comes to this by P, or a device failed; and where a file is absent, a read found none
abbrev pub Stops : {F : Type 0} → Ghosts F → F → F → (FileMap → Outcome → Type 0) → CommandFault → Type 0
Stops g old new P (Refused fault) = ((told : FileMap) → Tells g old told → P told (outcome_of fault)) × AtAbsent fault (AbsentsRose g old new)
Stops g old new P (Stopped fault) = ⊥
Stops g old new P (Failed fault) = AtFileDevice fault (FaultsRose g old new)

-- a fault of a program's file: it is absent, or its text is refused, or a call failed
abbrev pub IsOfProgram : CommandFault → Type 0
IsOfProgram (Refused (Absent name)) = Unit {0}
IsOfProgram (Refused (BadProgram line what)) = Unit {0}
IsOfProgram (Refused (BadSchedule line what)) = ⊥
IsOfProgram (Refused NotBuilt) = ⊥
IsOfProgram (Refused (BadTable name what)) = ⊥
IsOfProgram (Stopped fault) = ⊥
IsOfProgram (Failed fault) = Unit {0}

-- ---- what the steps find

-- the table of this name, this file and this schema
abbrev pub listing : List ℕ → List ℕ → Schema → Listed
listing name file schema = record { name = name; file = file; schema = schema }

-- the file of this name has this text
abbrev pub HasFile : List ℕ → List ℕ → FileMap → Type 0
HasFile name text files = map.get files name ≡ Some text

-- there is no file of this name
abbrev pub NoFile : List ℕ → FileMap → Outcome → Type 0
NoFile name files it = (map.get files name ≡ None) × (it ≡ absent name)

-- the file of this name has the text of this program
pub record IsProgramOf (name : List ℕ) (program : Whole) (files : FileMap) : Type 0 where
  pub text : List ℕ
  pub there : HasFile name text files
  pub just : IsJustProgram text program

-- the file of this name is not there, or something is wrong with its text
abbrev pub NoProgram : List ℕ → FileMap → Outcome → Type 0
NoProgram name files it =
    NoFile name files it ⊎ ((text : List ℕ) × HasFile name text files × (line : ℕ) × (what : What) × IsRefusedBy text (At line what) × (it ≡ bad_program line what))

-- a schedule within its limits, in which nothing is lost
pub record CanRun (schedule : Schedule) : Type 0 where
  pub limits : KeepsLimits schedule
  pub quiet : AreQuiet schedule.events

-- there is a schedule exactly where one is asked for
abbrev pub AsAsked : Option (List ℕ) → Option Schedule → Type 0
AsAsked None None = Unit {0}
AsAsked None (Some schedule) = ⊥
AsAsked (Some name) None = ⊥
AsAsked (Some name) (Some schedule) = Unit {0}

-- something is wrong with this text of a schedule, or something is lost in it
abbrev pub IsRefusedSchedule : List ℕ → Outcome → Type 0
IsRefusedSchedule text it =
    ((line : ℕ) × (what : ScheduleWhat) × HasFault text (schedule.At line what) × (it ≡ bad_schedule line what))
    ⊎ ((schedule : Schedule) × IsTextOf text schedule × (AreQuiet schedule.events → ⊥) × (it ≡ not_built))

-- the file of this name is not there, or has a schedule that is refused
abbrev pub OtherSchedule : List ℕ → FileMap → Outcome → Type 0
OtherSchedule name files it = NoFile name files it ⊎ ((text : List ℕ) × HasFile name text files × IsRefusedSchedule text it)

-- a schedule is asked for that is not there, or another one
abbrev pub NoSchedule : Option (List ℕ) → FileMap → Outcome → Type 0
NoSchedule None files it = ⊥
NoSchedule (Some name) files it = OtherSchedule name files it

-- the file of this table is not there, or has a fault
abbrev pub NoTable : Listed → FileMap → Outcome → Type 0
NoTable table files it =
    NoFile table.file files it
    ⊎ ((bytes : List ℕ) × HasFile table.file bytes files × (what : TableFault) × HasTableFault table.schema bytes what × (what ≢ table_fault.Memory) × (it ≡ bad_table table.name what))

-- the tables before one are accepted, and it is not
pub record StopsAtTable (program : Whole) (files : FileMap) (it : Outcome) : Type 0 where
  pub table : Listed
  pub before : List Listed
  pub behind : List Listed
  pub in_order : tables_of program ≡ before ++ table ∷ behind
  pub rows : List (List Record)
  pub have_tables : HaveTables files before rows
  pub no_table : NoTable table files it

-- the input comes to this, and to nothing with another status
pub record Judged (asked : Asked) (files : FileMap) (it : Outcome) : Type 0 where
  pub comes : ComesTo files asked it
  pub only : (other : Outcome) → ComesTo files asked other → status_of other ≡ status_of it
