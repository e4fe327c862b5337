-- What the input of a command comes to: its program, the schedule where one is asked for, and the tables, read in this order.
use Rattle.std.specs.Prelude.{◌≡◌, ◌≢◌, ℕ, ◌⊎◌, List, [], ◌∷◌, ◌++◌, Option, None, Some}
use Rattle.std.specs.FinMap as map
use Rattle.hal_base.specs.declared.fields.Schema.{Schema}
use Rattle.hal_base.specs.declared.record.Record.{Record}
use Rattle.hal_base.specs.declared.table.TableFault.{TableFault}
use Rattle.hal_base.specs.declared.table.TableFault.TheVariants as fault
use Rattle.hal_base.specs.Lines.{StandsFor}
use Rattle.hal_base.specs.TableFaults.{HasTableFault}
use Rattle.hal_outside.specs.Told.{FileMap}
use Rattle.run_laws.specs.WithoutLoss.{AreQuiet}
use Rattle.schedule_text.specs.Faults.{HasFault}
use Rattle.schedule_text.specs.Schedules.{IsTextOf}
use Rattle.schedule_text.specs.declared.fault.ScheduleFault.TheVariants.{At}
use Rattle.schedule_text.specs.declared.fault.ScheduleWhat.{ScheduleWhat}
use Rattle.schedule_text.specs.declared.schedule.Schedule.{Schedule}
use Rattle.program_sketch.specs.declared.fault.What.{What}
use Rattle.loop_program.specs.Programs.{HasWrong, IsTextOfProgram}
use Rattle.loop_program.specs.Whole.{Whole}
use Rattle.haloop_run.specs.Words.{Asked}

-- a table as the program lists it: its name, its file, the schema of its records
pub record Listed : Type 0 where
  pub name : List ℕ
  pub file : List ℕ
  pub schema : Schema

-- the tables of these names, files and schemas, as many as there are of each
abbrev pub listed : List (List ℕ) → List (List ℕ) → List Schema → List Listed
listed [] files schemas = []
listed (name ∷ names) [] schemas = []
listed (name ∷ names) (file ∷ files) [] = []
listed (name ∷ names) (file ∷ files) (schema ∷ schemas) = record { name = name; file = file; schema = schema } ∷ listed names files schemas

-- the tables of a program, in the order of its text
abbrev pub tables_of : Whole → List Listed
tables_of program = listed program.names program.files program.shape.tables

-- ---- files that are accepted

-- the file of this name has the text of this program
pub record HasProgram (files : FileMap) (name : List ℕ) (program : Whole) : Type 0 where
  pub text : List ℕ
  pub there : map.get files name ≡ Some text
  pub is_text : IsTextOfProgram text program

-- the file of this name has the text of this schedule, in which nothing is lost
pub record HasScheduleAt (files : FileMap) (name : List ℕ) (schedule : Schedule) : Type 0 where
  pub text : List ℕ
  pub there : map.get files name ≡ Some text
  pub is_text : IsTextOf text schedule
  pub quiet : AreQuiet schedule.events

-- the schedule's file, where one is asked for, has this one
abbrev pub HasSchedule : FileMap → Option (List ℕ) → Option Schedule → Type 0
HasSchedule files None None = Unit {0}
HasSchedule files None (Some schedule) = ⊥
HasSchedule files (Some name) None = ⊥
HasSchedule files (Some name) (Some schedule) = HasScheduleAt files name schedule

-- the file of a table stands for these records
pub record HasTable (files : FileMap) (table : Listed) (rows : List Record) : Type 0 where
  pub bytes : List ℕ
  pub there : map.get files table.file ≡ Some bytes
  pub stands : StandsFor table.schema bytes rows

-- the file of each table stands for its records
abbrev pub HaveTables : FileMap → List Listed → List (List Record) → Type 0
HaveTables files [] [] = Unit {0}
HaveTables files [] (rows ∷ more) = ⊥
HaveTables files (table ∷ tables) [] = ⊥
HaveTables files (table ∷ tables) (rows ∷ more) = HasTable files table rows × HaveTables files tables more

-- ---- how far the input is read

-- the program is accepted, and the schedule of this name is asked for
pub record ReachesSchedule (files : FileMap) (asked : Asked) (name : List ℕ) : Type 0 where
  pub program : Whole
  pub has_program : HasProgram files asked.program program
  pub is_asked : asked.schedule ≡ Some name

-- the program and the schedule are accepted, and so are the tables before this one
pub record ReachesTable (files : FileMap) (asked : Asked) (table : Listed) : Type 0 where
  pub program : Whole
  pub has_program : HasProgram files asked.program program
  pub schedule : Option Schedule
  pub has_schedule : HasSchedule files asked.schedule schedule
  pub before : List Listed
  pub behind : List Listed
  pub in_order : tables_of program ≡ before ++ table ∷ behind
  pub rows : List (List Record)
  pub have_tables : HaveTables files before rows

-- the file of this name is read: the program's, the schedule's or a table's, and all before it are accepted
abbrev pub ReachesFile : FileMap → Asked → List ℕ → Type 0
ReachesFile files asked name =
    (name ≡ asked.program) ⊎ ReachesSchedule files asked name ⊎ ((table : Listed) × ReachesTable files asked table × (name ≡ table.file))

-- ---- what it comes to

-- the input is complete, or this file is absent, or this is wrong with the program or with the schedule in this line, or the schedule has an event that is not built, or this table has a fault
pub data Outcome : Type 0 where
  complete : Whole → Option Schedule → List (List Record) → Outcome
  absent : List ℕ → Outcome
  bad_program : ℕ → What → Outcome
  bad_schedule : ℕ → ScheduleWhat → Outcome
  not_built : Outcome
  bad_table : List ℕ → TableFault → Outcome

-- what the input comes to: all of it is accepted, or all before the first file that is not
abbrev pub ComesTo : FileMap → Asked → Outcome → Type 0
ComesTo files asked (complete program schedule tables) = HasProgram files asked.program program × HasSchedule files asked.schedule schedule × HaveTables files (tables_of program) tables
ComesTo files asked (absent name) = ReachesFile files asked name × (map.get files name ≡ None)
ComesTo files asked (bad_program line what) = (text : List ℕ) × (map.get files asked.program ≡ Some text) × HasWrong text line what
ComesTo files asked (bad_schedule line what) = (name : List ℕ) × ReachesSchedule files asked name × (text : List ℕ) × (map.get files name ≡ Some text) × HasFault text (At line what)
ComesTo files asked not_built =
    (name : List ℕ) × ReachesSchedule files asked name × (text : List ℕ) × (map.get files name ≡ Some text) × (schedule : Schedule) × IsTextOf text schedule × (AreQuiet schedule.events → ⊥)
ComesTo files asked (bad_table name what) =
    (table : Listed) × ReachesTable files asked table × (name ≡ table.name) × (bytes : List ℕ) × (map.get files table.file ≡ Some bytes) × HasTableFault table.schema bytes what × (what ≢ fault.Memory)

-- what the input of `check` comes to, which is its program alone
abbrev pub ProgramComesTo : FileMap → List ℕ → Outcome → Type 0
ProgramComesTo files name (complete program schedule tables) = HasProgram files name program × (schedule ≡ None) × (tables ≡ [])
ProgramComesTo files name (absent at) = (at ≡ name) × (map.get files name ≡ None)
ProgramComesTo files name (bad_program line what) = (text : List ℕ) × (map.get files name ≡ Some text) × HasWrong text line what
ProgramComesTo files name (bad_schedule line what) = ⊥
ProgramComesTo files name not_built = ⊥
ProgramComesTo files name (bad_table table what) = ⊥
