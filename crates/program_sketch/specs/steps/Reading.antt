-- How programs are read, for the contracts of the reading steps alone.
use Rattle.std.specs.Prelude.{ℕ, true, false, cond, List, [], ◌∷◌, Option, None, Some, codes}
use Rattle.program_tokens.specs.declared.token.Ident.{Ident}
use Rattle.program_tokens.specs.declared.token.Number.{Number}
use Rattle.program_tokens.specs.steps.Parsers.{Parser, ◌>>=◌, ◌>>◌, pure, eat, expect, expect_end, expect_line, here, ident, natural, peek, quoted, repeated}
use Rattle.function_language.specs.declared.tree.Function.{Function}
use Rattle.function_language.specs.steps.Reading.{functions}
use Rattle.program_tokens.specs.steps.Parsers.{kinds}
use Rattle.program_tokens.specs.steps.Front.{sees}
use Rattle.program_sketch.specs.declared.sketch.Asked.{Asked}
use Rattle.program_sketch.specs.declared.reader.Head.{Head}
use Rattle.program_sketch.specs.declared.sketch.InputSketch.{InputSketch}
use Rattle.program_sketch.specs.declared.sketch.Sketch.{Sketch}
use Rattle.program_sketch.specs.declared.sketch.StepSketch.{StepSketch}
use Rattle.program_sketch.specs.declared.sketch.StopSketch.{StopSketch}
use Rattle.program_sketch.specs.declared.sketch.StopSketch.TheVariants.{Exact, Below}
use Rattle.program_sketch.specs.declared.sketch.TableSketch.{TableSketch}

-- a word, a name and `;`
unfoldable pub ident_line : List ℕ → Parser Ident
ident_line word = do
  expect word
  name ← ident
  expect (codes ";")
  pure name

-- a word, a number and `;`
unfoldable pub natural_line : List ℕ → Parser Number
natural_line word = do
  expect word
  number ← natural
  expect (codes ";")
  pure number

unfoldable pub below : Parser StopSketch
below = do
  expect (codes "below")
  threshold ← natural
  expect (codes "by")
  by ← ident
  pure (Below threshold by)

unfoldable pub stop : Parser StopSketch
stop = do
  is_exact ← eat (codes "exact")
  cond is_exact (pure Exact) below

unfoldable pub stop_line : Parser StopSketch
stop_line = do
  expect (codes "stop")
  found ← stop
  expect (codes ";")
  pure found

-- ---- the caches that are asked for; a `line` is read behind its `cache`

abbrev pub no_caches : Asked
no_caches = record { reducer_input = false; reducer_output = false; mapper_input = false }

abbrev pub with_output : Asked → Asked
with_output asked = record { reducer_input = asked.reducer_input; reducer_output = true; mapper_input = asked.mapper_input }

abbrev pub with_input : Asked → Asked
with_input asked = record { reducer_input = true; reducer_output = asked.reducer_output; mapper_input = asked.mapper_input }

unfoldable pub mapper_line : Parser Asked
mapper_line = do
  expect (codes "mapper_input")
  expect (codes ";")
  pure (record { reducer_input = false; reducer_output = false; mapper_input = true })

unfoldable pub from_mapper : Parser Asked
from_mapper = do
  asks ← eat (codes "cache")
  cond asks mapper_line (pure no_caches)

unfoldable pub output_line : Parser Asked
output_line = do
  expect (codes ";")
  more ← from_mapper
  pure (with_output more)

unfoldable pub output_or_mapper : Parser Asked
output_or_mapper = do
  is_output ← eat (codes "reducer_output")
  cond is_output output_line mapper_line

unfoldable pub from_output : Parser Asked
from_output = do
  asks ← eat (codes "cache")
  cond asks output_or_mapper (pure no_caches)

unfoldable pub input_line : Parser Asked
input_line = do
  expect (codes ";")
  more ← from_output
  pure (with_input more)

unfoldable pub any_line : Parser Asked
any_line = do
  is_input ← eat (codes "reducer_input")
  cond is_input input_line output_or_mapper

unfoldable pub asked : Parser Asked
asked = do
  asks ← eat (codes "cache")
  cond asks any_line (pure no_caches)

-- ---- tables and steps

unfoldable pub table : Parser TableSketch
table = do
  expect (codes "table")
  name ← ident
  line ← here
  file ← quoted
  row ← kinds
  expect (codes ";")
  pure (record { name = name; file = file; line = line; row = record { kinds = row } })

unfoldable pub tables : Parser (List TableSketch)
tables = do
  first ← table
  repeated (sees (codes "table")) table (first ∷ [])

unfoldable pub only : Parser (Option Number)
only = do
  in_one ← eat (codes "round")
  cond in_one (do
    round ← natural
    pure (Some round)) (pure None)

unfoldable pub input : Parser InputSketch
input = do
  expect (codes "table")
  table ← ident
  round ← only
  map ← ident_line (codes "by")
  pure (record { table = table; only = round; map = map })

unfoldable pub partition : Parser (Option Ident)
partition = do
  has_one ← peek (codes "partition")
  cond has_one (do
    found ← ident_line (codes "partition")
    pure (Some found)) (pure None)

-- what stands in a step behind its stream's word, and its `}`
unfoldable pub step_rest : ℕ → Parser StepSketch
step_rest line = do
  map ← ident_line (codes "by")
  inputs ← repeated (sees (codes "table")) input []
  reduce ← ident_line (codes "reduce")
  parted ← partition
  expect (codes "}")
  pure (record { line = line; map = map; inputs = inputs; reduce = reduce; partition = parted })

-- a step that reads this stream besides its tables
unfoldable pub step : List ℕ → Parser StepSketch
step stream = do
  line ← expect_line (codes "step")
  expect (codes "{")
  expect stream
  step_rest line

unfoldable pub steps : Parser (List StepSketch)
steps = do
  first ← step (codes "state")
  repeated (sees (codes "step")) (step (codes "prev")) (first ∷ [])

-- ---- programs

unfoldable pub head : Parser Head
head = do
  name ← ident_line (codes "program")
  parts ← natural_line (codes "parts")
  rounds ← natural_line (codes "rounds")
  stops ← stop_line
  caches ← asked
  pure (record { name = name; parts = parts; rounds = rounds; stop = stops; asked = caches })

abbrev pub sketch_of : Head → List TableSketch → List Function → Ident → List StepSketch → Sketch
sketch_of head tables functions start steps =
    record { name = head.name; parts = head.parts; rounds = head.rounds; stop = head.stop; asked = head.asked; tables = tables; functions = functions; start = start; steps = steps }

unfoldable pub program : Parser Sketch
program = do
  top ← head
  all ← tables
  own ← functions
  start ← ident_line (codes "begin")
  order ← steps
  pure (sketch_of top all own start order)

-- a program, to the end of its text
unfoldable pub whole_program : Parser Sketch
whole_program = do
  sketch ← program
  expect_end
  pure sketch
