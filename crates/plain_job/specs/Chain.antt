-- The unrolled chain of plain jobs by round, step and part: each step over whole lists. Rounds, steps and sources count from 1, parts from 0.
use Rattle.std.specs.Prelude.{ℕ, zero, suc, ◌+◌, ◌==◌, List, [], ◌∷◌, Option, None, Some, length, map, if◌then◌else◌}
use Rattle.std.specs.List.{flat_map}
use Rattle.hal_base.specs.declared.record.Record.{Record}
use Rattle.hal_base.specs.declared.shape.Origin.{Origin}
use Rattle.hal_base.specs.declared.shape.Origin.TheVariants.{State, Prev, Table}
use Rattle.hal_base.specs.declared.shape.Source.{Source}
use Rattle.hal_base.specs.declared.shape.Step.{Step}
use Rattle.hal_base.specs.declared.shape.Shape.{Shape}
use Rattle.hal_base.specs.Meaning.{Meaning}
use Rattle.hal_base.specs.Shapes.{source_at, step_at}
use Rattle.plain_job.specs.Job.{stream, job}

-- the parts of an output, one after another
abbrev pub together : List (List Record) → List Record
together parts = flat_map (λ rows. rows) parts

-- the table of this number
abbrev pub table_at : List (List Record) → ℕ → List Record
table_at [] n = []
table_at (rows ∷ tables) zero = rows
table_at (rows ∷ tables) (suc n) = table_at tables n

-- what a source reads in round i: the state, the output before, or a table, which may be read in one round only
abbrev pub source_rows : List (List Record) → ℕ → List Record → List Record → Origin → List Record
source_rows tables i state before State = state
source_rows tables i state before Prev = before
source_rows tables i state before (Table t None) = table_at tables t
source_rows tables i state before (Table t (Some only)) = if i == only then table_at tables t else []

-- the streams of step j in round i, one for each source, of which the first has number s
abbrev pub streams : Meaning → ℕ → ℕ → (Origin → List Record) → ℕ → List Source → List (List Record)
streams m i j rows s [] = []
streams m i j rows s (source ∷ sources) = stream (m.map i j s) (rows source.from) ∷ streams m i j rows (s + 1) sources

-- part p of what step j emits in round i for these streams
abbrev pub part_out : Meaning → ℕ → ℕ → List (List Record) → ℕ → List Record
part_out m i j ss p = job (m.reduce i j) (λ key. m.partition i j key == p) ss

-- so many numbers, from p on
abbrev pub numbers_from : ℕ → ℕ → List ℕ
numbers_from p zero = []
numbers_from p (suc n) = p ∷ numbers_from (p + 1) n

-- all parts of what step j emits in round i, given the state and the output before
abbrev pub step_out : Meaning → Shape → List (List Record) → ℕ → ℕ → List Record → List Record → Step → List (List Record)
step_out m shape tables i j state before step = map (part_out m i j (streams m i j (source_rows tables i state before) 1 step.sources)) (numbers_from 0 shape.parts)

-- the same of a step that may not be there
abbrev pub parts_by : Meaning → Shape → List (List Record) → ℕ → ℕ → List Record → List Record → Option Step → List (List Record)
parts_by m shape tables i j state before None = []
parts_by m shape tables i j state before (Some step) = step_out m shape tables i j state before step

-- all parts of step j in round i, which begins with this state; before the first step there are none
abbrev pub parts_from : Meaning → Shape → List (List Record) → ℕ → List Record → ℕ → List (List Record)
parts_from m shape tables i state zero = []
parts_from m shape tables i state (suc k) = parts_by m shape tables i (suc k) state (together (parts_from m shape tables i state k)) (step_at shape (suc k))

-- the parts of the last step in round i; round 0 leaves the start table, as one part
abbrev pub last_out : Meaning → Shape → List (List Record) → ℕ → List (List Record)
last_out m shape tables zero = table_at tables shape.start ∷ []
last_out m shape tables (suc n) = parts_from m shape tables (suc n) (together (last_out m shape tables n)) (length shape.steps)

-- the state that round i begins with: what the last step left in the round before
abbrev pub state_of : Meaning → Shape → List (List Record) → ℕ → List Record
state_of m shape tables zero = []
state_of m shape tables (suc n) = together (last_out m shape tables n)

-- all parts of step j in round i
abbrev pub parts_of : Meaning → Shape → List (List Record) → ℕ → ℕ → List (List Record)
parts_of m shape tables i j = parts_from m shape tables i (state_of m shape tables i) j

-- part p of the output of step j in round i
abbrev pub out : Meaning → Shape → List (List Record) → ℕ → ℕ → ℕ → List Record
out m shape tables i j p = table_at (parts_of m shape tables i j) p

-- what a source reads, where there is one
abbrev pub rows_read : (Origin → List Record) → Option Source → List Record
rows_read rows None = []
rows_read rows (Some source) = rows source.from

-- what source s of step j reads in round i
abbrev pub source_list : Meaning → Shape → List (List Record) → ℕ → ℕ → ℕ → List Record
source_list m shape tables i zero s = []
source_list m shape tables i (suc k) s = rows_read (source_rows tables i (state_of m shape tables i) (together (parts_of m shape tables i k))) (source_at shape (suc k) s)

-- the stream of source s of step j in round i
abbrev pub stream_of : Meaning → Shape → List (List Record) → ℕ → ℕ → ℕ → List Record
stream_of m shape tables i j s = stream (m.map i j s) (source_list m shape tables i j s)
