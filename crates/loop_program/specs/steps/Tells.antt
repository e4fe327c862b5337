-- What the steps of a check find, for their contracts alone.
use Rattle.std.specs.Prelude.{◌≡◌, List, [], Some, Result, Ok, Err}
use Rattle.type_checker.specs.declared.fault.TypeFault.{TypeFault}
use Rattle.type_checker.specs.declared.fault.TypeFault.TheVariants as fault
use Rattle.program_sketch.specs.declared.fault.ProgramFault.{ProgramFault}
use Rattle.program_sketch.specs.declared.fault.ProgramFault.TheVariants.{At, Memory}
use Rattle.program_sketch.specs.declared.fault.What.TheVariants.{DoubleName}
use Rattle.program_sketch.specs.declared.sketch.Sketch.{Sketch}
use Rattle.program_sketch.specs.declared.sketch.TableSketch.{TableSketch}
use Rattle.loop_program.specs.declared.reading.Parts.{Parts}
use Rattle.loop_program.specs.declared.typing.TypedSketch.{TypedSketch}
use Rattle.loop_program.specs.Found.{Found}
use Rattle.loop_program.specs.Programs.{accepted}
use Rattle.loop_program.specs.Types.{HasFirst, IsSaid, double_table}
use Rattle.loop_program.specs.Whole.{Whole, whole_of}

-- a fault of functions is said so, or it is want of memory
abbrev pub SaysFault : TypeFault → ProgramFault → Type 0
SaysFault found (At line what) = IsSaid found line what
SaysFault found Memory = found ≡ fault.Memory

-- a table has the name of one before it, or memory ran out
abbrev pub TablesRefuse : List TableSketch → ProgramFault → Type 0
TablesRefuse tables (At line what) = (double_table [] tables ≡ Some line) × (what ≡ DoubleName)
TablesRefuse tables Memory = Unit {0}

-- this is the first fault of names and kinds in the program, or memory ran out
abbrev pub FaultIs : Sketch → ProgramFault → Type 0
FaultIs sketch (At line what) = HasFirst sketch line what
FaultIs sketch Memory = Unit {0}

-- this fault is the one that is found, or memory ran out
abbrev pub IsFound : {A : Type 0} → Found A → ProgramFault → Type 0
IsFound found (At line what) = found ≡ Err (At line what)
IsFound found Memory = Unit {0}

-- an answer is what is found, unless memory ran out
abbrev pub Tells : {A : Type 0} → Found A → Result A ProgramFault → Type 0
Tells found (Ok a) = found ≡ Ok a
Tells found (Err fault) = IsFound found fault

-- the program that is written so, with these parts
abbrev pub with_parts : TypedSketch → Parts → Whole
with_parts sketch parts = whole_of sketch.functions parts.uses parts.shape parts.names parts.files sketch.asked

-- an answer has the parts of the program that is found, unless memory ran out
abbrev pub TellsParts : TypedSketch → Result Parts ProgramFault → Type 0
TellsParts sketch (Ok parts) = accepted sketch ≡ Ok (with_parts sketch parts)
TellsParts sketch (Err fault) = IsFound (accepted sketch) fault
