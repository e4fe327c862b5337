-- Readers of tables, inputs and steps leave fewer tokens than there were.
use Rattle.std.proofs.Common.{List, Ok, codes, length, sym, ◌<◌, ◌≡◌}
use Rattle.program_tokens.specs.declared.token.Token.{Token}
use Rattle.program_tokens.proofs.Firsts.{Free}
use Rattle.program_tokens.proofs.Shorter.{right_shorter}
use Rattle.program_sketch.specs.steps.Reading.{input, step, table}
use Rattle.program_sketch.specs.declared.sketch.InputSketch.{InputSketch}
use Rattle.program_sketch.specs.declared.sketch.StepSketch.{StepSketch}
use Rattle.program_sketch.specs.declared.sketch.TableSketch.{TableSketch}
use Rattle.program_sketch.proofs.GrammarSteps.{input_right, input_some, step_right, step_some}
use Rattle.program_sketch.proofs.GrammarTables.{table_right, table_some}

-- a table
pub table_shorter : (ts : List Token) (a : TableSketch) (rest : List Token) → table ts ≡ Ok (a, rest) → length rest < length ts
table_shorter = right_shorter (table_right Free) (λ t e. table_some t (sym e))

-- a table that a step reads
pub input_shorter : (ts : List Token) (a : InputSketch) (rest : List Token) → input ts ≡ Ok (a, rest) → length rest < length ts
input_shorter = right_shorter (input_right Free) (λ i e. input_some i (sym e))

-- a step behind the first
pub step_shorter : (ts : List Token) (a : StepSketch) (rest : List Token) → step (codes "prev") ts ≡ Ok (a, rest) → length rest < length ts
step_shorter = right_shorter (step_right (codes "prev") Free) (λ s e. step_some (codes "prev") s (sym e))
