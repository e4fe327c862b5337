-- How programs are spelled: what stands at each place of their text.
use Rattle.std.specs.Prelude.{ℕ, cond, List, [], ◌∷◌, ◌++◌, Option, None, Some, codes}
use Rattle.std.specs.List.{flat_map}
use Rattle.program_tokens.specs.declared.token.Ident.{Ident}
use Rattle.program_tokens.specs.declared.token.Number.{Number}
use Rattle.program_tokens.specs.Pieces.{Piece, plain, placed, name, natural, quoted, end, nothing}
use Rattle.function_language.specs.Spelled.{functions_pieces}
use Rattle.program_tokens.specs.Pieces.{kinds_pieces}
use Rattle.program_sketch.specs.declared.sketch.Asked.{Asked}
use Rattle.program_sketch.specs.declared.sketch.InputSketch.{InputSketch}
use Rattle.program_sketch.specs.declared.sketch.Sketch.{Sketch}
use Rattle.program_sketch.specs.declared.sketch.StepSketch.{StepSketch}
use Rattle.program_sketch.specs.declared.sketch.StopSketch.{StopSketch}
use Rattle.program_sketch.specs.declared.sketch.StopSketch.TheVariants.{Exact, Below}
use Rattle.program_sketch.specs.declared.sketch.TableSketch.{TableSketch}

-- when the program stops
abbrev pub stop_pieces : StopSketch → List Piece
stop_pieces Exact = plain (codes "exact") ∷ []
stop_pieces (Below threshold by) = plain (codes "below") ∷ natural threshold ∷ plain (codes "by") ∷ name by ∷ []

-- a line that asks for a cache
abbrev pub cache_pieces : List ℕ → List Piece
cache_pieces word = plain (codes "cache") ∷ plain word ∷ plain (codes ";") ∷ []

-- the caches that are asked for
abbrev pub asked_pieces : Asked → List Piece
asked_pieces asked =
    cond asked.reducer_input (cache_pieces (codes "reducer_input")) []
    ++ cond asked.reducer_output (cache_pieces (codes "reducer_output")) []
    ++ cond asked.mapper_input (cache_pieces (codes "mapper_input")) []

-- a table
abbrev pub table_pieces : TableSketch → List Piece
table_pieces table = plain (codes "table") ∷ name table.name ∷ quoted table.file table.line ∷ kinds_pieces table.row.kinds ++ plain (codes ";") ∷ []

-- one table or more
abbrev pub tables_pieces : List TableSketch → List Piece
tables_pieces [] = nothing ∷ []
tables_pieces (first ∷ others) = table_pieces first ++ flat_map table_pieces others

-- the one round in which a table is read
abbrev pub only_pieces : Option Number → List Piece
only_pieces None = []
only_pieces (Some round) = plain (codes "round") ∷ natural round ∷ []

-- a table that a step reads
abbrev pub input_pieces : InputSketch → List Piece
input_pieces input = plain (codes "table") ∷ name input.table ∷ only_pieces input.only ++ plain (codes "by") ∷ name input.map ∷ plain (codes ";") ∷ []

-- the partition of a step
abbrev pub partition_pieces : Option Ident → List Piece
partition_pieces None = []
partition_pieces (Some partition) = plain (codes "partition") ∷ name partition ∷ plain (codes ";") ∷ []

-- a step that reads this stream besides its tables
abbrev pub step_pieces : List ℕ → StepSketch → List Piece
step_pieces stream step =
    placed (codes "step") step.line ∷ plain (codes "{") ∷ plain stream ∷ plain (codes "by") ∷ name step.map ∷ plain (codes ";") ∷ flat_map input_pieces step.inputs
    ++ plain (codes "reduce") ∷ name step.reduce ∷ plain (codes ";") ∷ partition_pieces step.partition ++ plain (codes "}") ∷ []

-- one step or more: the first reads the state, each other the output before
abbrev pub steps_pieces : List StepSketch → List Piece
steps_pieces [] = nothing ∷ []
steps_pieces (first ∷ others) = step_pieces (codes "state") first ++ flat_map (step_pieces (codes "prev")) others

-- the lines above the tables
abbrev pub head_pieces : Sketch → List Piece
head_pieces sketch =
    plain (codes "program") ∷ name sketch.name ∷ plain (codes ";") ∷ plain (codes "parts") ∷ natural sketch.parts ∷ plain (codes ";") ∷ plain (codes "rounds") ∷ natural sketch.rounds ∷ plain (codes ";")
    ∷ plain (codes "stop") ∷ stop_pieces sketch.stop ++ plain (codes ";") ∷ asked_pieces sketch.asked

-- a program, to the end of its text
abbrev pub program_pieces : Sketch → List Piece
program_pieces sketch =
    head_pieces sketch ++ tables_pieces sketch.tables ++ functions_pieces sketch.functions ++ plain (codes "begin") ∷ name sketch.start ∷ plain (codes ";") ∷ steps_pieces sketch.steps ++ end ∷ []
