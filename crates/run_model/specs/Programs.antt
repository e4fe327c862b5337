-- Small worked programs on small clusters.
use Rattle.std.specs.Prelude.{ℕ, Bool, true, false, List, [], ◌∷◌, None}
use Rattle.hal_base.specs.declared.value.Kind.TheVariants as kind
use Rattle.hal_base.specs.declared.fields.Schema.{Schema}
use Rattle.hal_base.specs.declared.shape.Origin.{Origin}
use Rattle.hal_base.specs.declared.shape.Origin.TheVariants.{State, Prev, Table}
use Rattle.hal_base.specs.declared.shape.Source.{Source}
use Rattle.hal_base.specs.declared.shape.Step.{Step}
use Rattle.hal_base.specs.declared.shape.Shape.{Shape}
use Rattle.schedule_text.specs.declared.schedule.Event.{Event}
use Rattle.run_model.specs.State.{Setup}

-- records with a number as key and one number as field
abbrev pub pairs : Schema
pairs = record { key = kind.Int; fields = kind.Int ∷ [] }

-- a source of such records, with its caches
abbrev pub source : Origin → Bool → Bool → Source
source from reducer mapper = record { from = from; stream = pairs; reducer_input = reducer; mapper_input = mapper }

-- a step of these sources that gives such records
abbrev pub step : List Source → Step
step sources = record { sources = sources; out = pairs }

-- so many parts and rounds, tables of so many blocks, steps, and whether there is the reducer output cache
abbrev pub shape : ℕ → ℕ → List ℕ → List Step → Bool → Shape
shape parts rounds blocks steps output = record {
  parts = parts;
  rounds = rounds;
  exact = true;
  threshold = 1;
  start = 0;
  tables = pairs ∷ pairs ∷ [];
  blocks = blocks;
  steps = steps;
  reducer_output = output;
}

-- a shape on so many nodes with one slot each, with so many copies of blocks and these events
abbrev pub setup : Shape → ℕ → ℕ → List Event → Setup
setup shape nodes copies events = record {
  shape = shape;
  schedule = record { nodes = nodes; slots = 1; copies = copies; block = 10000; attempts = 4; keep = 1; events = events };
}

-- one job over one table
abbrev pub one_job : Shape
one_job = shape 1 1 (1 ∷ []) (step (source State false false ∷ []) ∷ []) false

-- distances by hops, with the reducer's caches, over so many parts
abbrev pub hops : ℕ → Shape
hops parts = shape parts 20 (1 ∷ 1 ∷ [])
    (step (source State false false ∷ source (Table 1 None) true false ∷ [])
    ∷ step (source Prev false false ∷ source (Table 0 None) true false ∷ [])
    ∷ [])
    true

-- a table read with the round, with the mapper input cache
abbrev pub stamps : Shape
stamps = shape 1 2 (1 ∷ []) (step (source State false false ∷ source (Table 0 None) false true ∷ []) ∷ []) false

-- the same, with outputs of every so-many-th round kept
abbrev pub kept_every : ℕ → Setup → Setup
kept_every n s = record { shape = s.shape; schedule = record s.schedule { keep = n } }
