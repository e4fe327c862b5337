-- The verdicts on the sources of a program and on its state. Steps and sources count from 1.
use Rattle.std.specs.Prelude.{ℕ, suc, List, [], ◌∷◌, ◌++◌}
use Rattle.hal_base.specs.declared.shape.Source.{Source}
use Rattle.hal_base.specs.declared.shape.Step.{Step}
use Rattle.loop_program.specs.Caches.{input_of, mapper_of, output_of}
use Rattle.loop_program.specs.Whole.{Whole}
use Rattle.cache_conditions.specs.declared.verdict.SourceVerdict.{SourceVerdict}
use Rattle.cache_conditions.specs.declared.verdict.Verdicts.{Verdicts}

-- on source s of step j
abbrev pub source_verdict : Whole → ℕ → ℕ → Source → SourceVerdict
source_verdict program j s source = record {
  step = j;
  source = s;
  input = input_of program j s source.from;
  mapper = mapper_of program j s source.from;
}

-- on sources of step j, of which the first has number s
abbrev pub step_verdicts : Whole → ℕ → ℕ → List Source → List SourceVerdict
step_verdicts program j s [] = []
step_verdicts program j s (source ∷ sources) = source_verdict program j s source ∷ step_verdicts program j (suc s) sources

-- on the sources of steps, of which the first has number j
abbrev pub steps_verdicts : Whole → ℕ → List Step → List SourceVerdict
steps_verdicts program j [] = []
steps_verdicts program j (step ∷ steps) = step_verdicts program j 1 step.sources ++ steps_verdicts program (suc j) steps

-- on all sources, and on the state
abbrev pub verdicts : Whole → Verdicts
verdicts program = record { sources = steps_verdicts program 1 program.shape.steps; output = output_of program }
