-- The lines that a command writes on the sink.
use Rattle.std.specs.Prelude.{ℕ, List, [], ◌++◌, codes, decimal}
use Rattle.hal_base.specs.declared.line.LineFault.{LineFault}
use Rattle.hal_base.specs.declared.line.LineFault.TheVariants.{FieldCount, BadNumber, BadText}
use Rattle.hal_base.specs.declared.line.LineFault.TheVariants as line
use Rattle.hal_base.specs.declared.table.TableFault.{TableFault}
use Rattle.hal_base.specs.declared.table.TableFault.TheVariants.{Line, TooMany}
use Rattle.hal_base.specs.declared.table.TableFault.TheVariants as table
use Rattle.program_sketch.specs.declared.fault.What.{What}
use Rattle.program_sketch.specs.declared.fault.What.TheVariants.{Syntax, Limit, WrongKind, UnknownName, WrongCount, EmitMismatch, DoubleName, StreamMismatch, UnknownTable, SchemaMismatch}
use Rattle.node_names.specs.Tasks.{text_of_task}
use Rattle.node_names.specs.declared.task.Task.{Task}
use Rattle.plain_job.specs.declared.ending.End.{End}
use Rattle.plain_job.specs.Ends.{end_text}
use Rattle.haloop_run.specs.Inputs.{Outcome, complete, absent, bad_program, bad_schedule, not_built, bad_table}
use Rattle.schedule_text.specs.declared.fault.ScheduleWhat.{ScheduleWhat}
use Rattle.schedule_text.specs.declared.fault.ScheduleWhat.TheVariants.{BadWord, BadNumber as BadScheduleNumber, OutOfRange, CopiesAboveNodes, Missing, Twice}

-- the lines of `plain`
abbrev pub plain_report : ℕ → End → List ℕ
plain_report rounds end = codes "rounds " ++ decimal rounds ++ codes "\nend " ++ end_text end ++ codes "\n"

-- the line where the words are those of no command
abbrev pub usage_line : List ℕ
usage_line = codes "error: usage: haloop run PROGRAM SCHEDULE OUT [journal=FILE] | plain PROGRAM OUT | check PROGRAM | demo N SEED\n"

-- the line where the file of this name is absent
abbrev pub absent_line : List ℕ → List ℕ
absent_line name = codes "error: file " ++ name ++ codes " absent\n"

-- the word of what is wrong with a program
abbrev pub what_text : What → List ℕ
what_text Syntax = codes "syntax"
what_text Limit = codes "limit"
what_text WrongKind = codes "wrong-kind"
what_text UnknownName = codes "unknown-name"
what_text WrongCount = codes "wrong-count"
what_text EmitMismatch = codes "emit-mismatch"
what_text DoubleName = codes "double-name"
what_text StreamMismatch = codes "stream-mismatch"
what_text UnknownTable = codes "unknown-table"
what_text SchemaMismatch = codes "schema-mismatch"

-- the line where this is wrong with the program in this line of its text
abbrev pub program_line : ℕ → What → List ℕ
program_line line what = codes "error: program line " ++ decimal line ++ codes ": " ++ what_text what ++ codes "\n"

-- the word of what is wrong with a schedule
abbrev pub schedule_what_text : ScheduleWhat → List ℕ
schedule_what_text BadWord = codes "bad-word"
schedule_what_text BadScheduleNumber = codes "bad-number"
schedule_what_text OutOfRange = codes "out-of-range"
schedule_what_text CopiesAboveNodes = codes "copies-above-nodes"
schedule_what_text Missing = codes "missing"
schedule_what_text Twice = codes "twice"

-- the line where this is wrong with the schedule in this line of its text
abbrev pub schedule_line : ℕ → ScheduleWhat → List ℕ
schedule_line line what = codes "error: schedule line " ++ decimal line ++ codes ": " ++ schedule_what_text what ++ codes "\n"

-- the line where a task failed too often
abbrev pub task_line : Task → List ℕ
task_line task = codes "error: task " ++ text_of_task task ++ codes " failed\n"

-- the line where the schedule, or what happened in its run, is not built
abbrev pub not_built_line : List ℕ
not_built_line = codes "error: form not built\n"

-- the words of a fault of a line
abbrev pub line_fault_text : LineFault → List ℕ
line_fault_text FieldCount = codes "field-count"
line_fault_text (BadNumber field) = codes "bad-number " ++ decimal field
line_fault_text (BadText field) = codes "bad-text " ++ decimal field
line_fault_text line.Memory = codes "memory"

-- the words of a fault of a table: its line, and what is wrong there
abbrev pub table_fault_text : TableFault → List ℕ
table_fault_text (Line n what) = decimal n ++ codes ": " ++ line_fault_text what
table_fault_text (TooMany n) = decimal n ++ codes ": limit"
table_fault_text table.Memory = codes "memory"

-- the line where the table of this name has this fault
abbrev pub table_line : List ℕ → TableFault → List ℕ
table_line name what = codes "error: table " ++ name ++ codes " line " ++ table_fault_text what ++ codes "\n"

-- the line where a device failed
abbrev pub device_line : List ℕ
device_line = codes "error: device\n"

-- the line where memory ran out
abbrev pub memory_line : List ℕ
memory_line = codes "error: memory\n"

-- the line of what the input comes to; where it is complete there is none
abbrev pub outcome_line : Outcome → List ℕ
outcome_line (complete program schedule tables) = []
outcome_line (absent name) = absent_line name
outcome_line (bad_program line what) = program_line line what
outcome_line (bad_schedule line what) = schedule_line line what
outcome_line not_built = not_built_line
outcome_line (bad_table name what) = table_line name what

-- its status
abbrev pub status_of : Outcome → ℕ
status_of (complete program schedule tables) = 0
status_of (absent name) = 11
status_of (bad_program line what) = 2
status_of (bad_schedule line what) = 4
status_of not_built = 12
status_of (bad_table name what) = 3
