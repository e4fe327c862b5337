-- A shape with other flags of caches. Steps and sources count from 1.
use Rattle.std.specs.Prelude.{ℕ, suc, Bool, List, [], ◌∷◌}
use Rattle.hal_base.specs.declared.shape.Shape.{Shape}
use Rattle.hal_base.specs.declared.shape.Source.{Source}
use Rattle.hal_base.specs.declared.shape.Step.{Step}

-- which caches source s of step j is to have
pub record SourceFlags : Type 0 where
  pub reducer_input : ℕ → ℕ → Source → Bool
  pub mapper_input : ℕ → ℕ → Source → Bool

-- source s of step j with these flags
abbrev pub flagged_source : SourceFlags → ℕ → ℕ → Source → Source
flagged_source flags j s source = record {
  from = source.from;
  stream = source.stream;
  reducer_input = flags.reducer_input j s source;
  mapper_input = flags.mapper_input j s source;
}

-- sources of step j, of which the first has number s
abbrev pub flagged_sources : SourceFlags → ℕ → ℕ → List Source → List Source
flagged_sources flags j s [] = []
flagged_sources flags j s (source ∷ sources) = flagged_source flags j s source ∷ flagged_sources flags j (suc s) sources

-- a step with these flags of its sources; it has number j
abbrev pub flagged_step : SourceFlags → ℕ → Step → Step
flagged_step flags j step = record { sources = flagged_sources flags j 1 step.sources; out = step.out }

-- steps, of which the first has number j
abbrev pub flagged_steps : SourceFlags → ℕ → List Step → List Step
flagged_steps flags j [] = []
flagged_steps flags j (step ∷ steps) = flagged_step flags j step ∷ flagged_steps flags (suc j) steps

-- the shape with these flags of its sources and this one of its state
abbrev pub flagged : SourceFlags → Bool → Shape → Shape
flagged flags output shape = record {
  parts = shape.parts;
  rounds = shape.rounds;
  exact = shape.exact;
  threshold = shape.threshold;
  start = shape.start;
  tables = shape.tables;
  blocks = shape.blocks;
  steps = flagged_steps flags 1 shape.steps;
  reducer_output = output;
}
