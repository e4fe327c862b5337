-- No end stands within the spelling of a program, and each word of it can be spelled.
use Rattle.std.proofs.Common.{Bool, List, None, Option, Some, [], codes, cond, false, refl, true, ℕ, ◌++◌, ◌∷◌, ◌≡◌}
use Rattle.std.specs.List.{flat_map}
use Rattle.program_tokens.specs.Tokens.{IsSpelled}
use Rattle.program_tokens.specs.declared.token.Lexeme.TheVariants as lexeme
use Rattle.program_tokens.specs.Pieces.{end, name, plain}
use Rattle.function_language.specs.Spelled.{functions_pieces}
use Rattle.program_tokens.specs.Pieces.{kinds_pieces}
use Rattle.program_tokens.specs.declared.token.Ident.{Ident}
use Rattle.program_tokens.specs.declared.token.Number.{Number}
use Rattle.function_language.proofs.Inner.{functions_inner}
use Rattle.program_tokens.proofs.Inner.{kinds_inner}
use Rattle.program_tokens.proofs.Inner.{AreInner, all_inner, both_inner}
use Rattle.program_sketch.specs.Spelled.{asked_pieces, cache_pieces, head_pieces, input_pieces, only_pieces, partition_pieces, program_pieces, step_pieces, steps_pieces, stop_pieces, table_pieces, tables_pieces}
use Rattle.program_sketch.specs.declared.sketch.Asked.{Asked}
use Rattle.program_sketch.specs.declared.sketch.InputSketch.{InputSketch}
use Rattle.program_sketch.specs.declared.sketch.Sketch.{Sketch}
use Rattle.program_sketch.specs.declared.sketch.StepSketch.{StepSketch}
use Rattle.program_sketch.specs.declared.sketch.StopSketch.{StopSketch}
use Rattle.program_sketch.specs.declared.sketch.StopSketch.TheVariants.{Below, Exact}
use Rattle.program_sketch.specs.declared.sketch.TableSketch.{TableSketch}
use Rattle.program_sketch.proofs.GrammarPrograms.{inner_pieces}

-- when a program stops
stop_inner : (stop : StopSketch) → AreInner (stop_pieces stop)
stop_inner Exact = (refl, tt)
stop_inner (Below threshold by) = (refl, (tt, (refl, (tt, tt))))

-- a line for a cache, or none
cache_inner : (asks : Bool) (word : List ℕ) → IsSpelled (lexeme.Plain word) → AreInner (cond asks (cache_pieces word) [])
cache_inner true word s = (refl, (s, (refl, tt)))
cache_inner false word s = tt

-- the caches that are asked for
asked_inner : (asked : Asked) → AreInner (asked_pieces asked)
asked_inner asked =
    let inputs = cond asked.reducer_input (cache_pieces (codes "reducer_input")) [] in
    let outputs = cond asked.reducer_output (cache_pieces (codes "reducer_output")) [] in
    both_inner (inputs ++ outputs) (cond asked.mapper_input (cache_pieces (codes "mapper_input")) [])
    (both_inner inputs outputs (cache_inner asked.reducer_input (codes "reducer_input") refl) (cache_inner asked.reducer_output (codes "reducer_output") refl))
    (cache_inner asked.mapper_input (codes "mapper_input") refl)

-- a table
table_inner : (table : TableSketch) → AreInner (table_pieces table)
table_inner table = (refl, (tt, (tt, both_inner (kinds_pieces table.row.kinds) (plain (codes ";") ∷ []) (kinds_inner table.row.kinds) (refl, tt))))

-- tables
tables_inner : (tables : List TableSketch) → AreInner (tables_pieces tables)
tables_inner [] = (tt, tt)
tables_inner (first ∷ others) = both_inner (table_pieces first) (flat_map table_pieces others) (table_inner first) (all_inner table_pieces table_inner others)

-- the one round in which a table is read
only_inner : (only : Option Number) → AreInner (only_pieces only)
only_inner None = tt
only_inner (Some round) = (refl, (tt, tt))

-- a table that a step reads
input_inner : (input : InputSketch) → AreInner (input_pieces input)
input_inner input = (refl, (tt, both_inner (only_pieces input.only) (plain (codes "by") ∷ name input.map ∷ plain (codes ";") ∷ []) (only_inner input.only) (refl, (tt, (refl, tt)))))

-- the partition of a step
partition_inner : (partition : Option Ident) → AreInner (partition_pieces partition)
partition_inner None = tt
partition_inner (Some partition) = (refl, (tt, (refl, tt)))

-- a step
step_inner : (stream : List ℕ) → IsSpelled (lexeme.Plain stream) → (step : StepSketch) → AreInner (step_pieces stream step)
step_inner stream s step =
    let inputs = flat_map input_pieces step.inputs in
    let reduce = plain (codes "reduce") ∷ name step.reduce ∷ plain (codes ";") ∷ partition_pieces step.partition in
    (refl, (refl, (s, (refl, (tt, (refl, both_inner (inputs ++ reduce) (plain (codes "}") ∷ []) (both_inner inputs reduce (all_inner input_pieces input_inner step.inputs) (refl, (tt, (refl, partition_inner step.partition)))) (refl, tt)))))))

-- steps
steps_inner : (steps : List StepSketch) → AreInner (steps_pieces steps)
steps_inner [] = (tt, tt)
steps_inner (first ∷ others) = both_inner (step_pieces (codes "state") first) (flat_map (step_pieces (codes "prev")) others) (step_inner (codes "state") refl first) (all_inner (step_pieces (codes "prev")) (step_inner (codes "prev") refl) others)

-- the lines above the tables
head_inner : (sketch : Sketch) → AreInner (head_pieces sketch)
head_inner sketch =
    let stops = both_inner (stop_pieces sketch.stop) (plain (codes ";") ∷ asked_pieces sketch.asked) (stop_inner sketch.stop) (refl, asked_inner sketch.asked) in
    (refl, (tt, (refl, (refl, (tt, (refl, (refl, (tt, (refl, (refl, stops))))))))))

-- a program ends with the end
pub whole : (sketch : Sketch) → program_pieces sketch ≡ inner_pieces sketch ++ end ∷ []
whole sketch = refl

-- and no other stands in it
pub inner : (sketch : Sketch) → AreInner (inner_pieces sketch)
inner sketch =
    let head = head_pieces sketch in
    let tables = tables_pieces sketch.tables in
    let functions = functions_pieces sketch.functions in
    both_inner (head ++ tables ++ functions) (plain (codes "begin") ∷ name sketch.start ∷ plain (codes ";") ∷ steps_pieces sketch.steps)
    (both_inner (head ++ tables) functions (both_inner head tables (head_inner sketch) (tables_inner sketch.tables)) (functions_inner sketch.functions))
    (refl, (tt, (refl, steps_inner sketch.steps)))
