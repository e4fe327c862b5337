-- A whole program as data.
use Rattle.std.specs.Prelude.{ℕ, List}
use Rattle.hal_base.specs.declared.shape.Shape.{Shape}
use Rattle.function_language.specs.declared.tree.Function.{Function}
use Rattle.type_checker.specs.declared.uses.Uses.{Uses}
use Rattle.program_sketch.specs.declared.sketch.Asked.{Asked}

-- a program: its own functions, the places that use them, its shape, the names and the files of its tables, the caches that it asks for
pub record Whole : Type 0 where
  pub functions : List Function
  pub uses : Uses
  pub shape : Shape
  pub names : List (List ℕ)
  pub files : List (List ℕ)
  pub asked : Asked

-- the program of these parts
abbrev pub whole_of : List Function → Uses → Shape → List (List ℕ) → List (List ℕ) → Asked → Whole
whole_of functions uses shape names files asked = record { functions = functions; uses = uses; shape = shape; names = names; files = files; asked = asked }

-- the shape with so many blocks of each table
abbrev pub blocked : Shape → List ℕ → Shape
blocked shape blocks = record {
  parts = shape.parts;
  rounds = shape.rounds;
  exact = shape.exact;
  threshold = shape.threshold;
  start = shape.start;
  tables = shape.tables;
  blocks = blocks;
  steps = shape.steps;
  reducer_output = shape.reducer_output;
}

-- the same program, whose tables have so many blocks
abbrev pub with_blocks : Whole → List ℕ → Whole
with_blocks program blocks = whole_of program.functions program.uses (blocked program.shape blocks) program.names program.files program.asked
