-- Small worked programs, as shapes, meanings and tables.
use Rattle.std.specs.Prelude.{ℕ, ◌+◌, ◌==◌, ℤ, pos, negsuc, ◌+ℤ◌, ◌*ℤ◌, int_div, Bool, true, false, List, [], ◌∷◌, None, Some, length, map, if◌then◌else◌}
use Rattle.std.specs.List.{flat_map}
use Rattle.hal_base.specs.declared.value.Kind.TheVariants as kind
use Rattle.hal_base.specs.declared.value.Value.{Value}
use Rattle.hal_base.specs.declared.value.Value.TheVariants.{Int}
use Rattle.hal_base.specs.declared.record.Record.{Record}
use Rattle.hal_base.specs.declared.fields.Schema.{Schema}
use Rattle.hal_base.specs.declared.shape.Origin.{Origin}
use Rattle.hal_base.specs.declared.shape.Origin.TheVariants.{State, Prev, Table}
use Rattle.hal_base.specs.declared.shape.Source.{Source}
use Rattle.hal_base.specs.declared.shape.Step.{Step}
use Rattle.hal_base.specs.declared.shape.Shape.{Shape}
use Rattle.hal_base.specs.Meaning.{Meaning}
use Rattle.hal_base.specs.Parts.{default_part}
use Rattle.plain_job.specs.Predefined.{same, made, keyed, add}
use Rattle.type_checker.specs.declared.uses.Use.{Use}
use Rattle.type_checker.specs.declared.uses.Use.TheVariants.{Same, Least, Hop, Default}
use Rattle.type_checker.specs.declared.uses.UseStep.{UseStep}
use Rattle.function_meaning.specs.Meanings.{meaning_of}

-- a record of two numbers
abbrev pub pair : ℕ → ℕ → Record
pair k v = made (Int (pos k)) (Int (pos v) ∷ [])

-- the schema of such records
abbrev pub pairs : Schema
pairs = record { key = kind.Int; fields = kind.Int ∷ [] }

-- a source whose stream has such records, without caches
abbrev pub source : Origin → Source
source from = record { from = from; stream = pairs; reducer_input = false; mapper_input = false }

-- a step that leaves such records
abbrev pub step : List Source → Step
step sources = record { sources = sources; out = pairs }

-- a program whose maps are all `same` and whose steps have these reduces, over so many parts
abbrev pub program : (ℕ → Value → List (List (List Value)) → List Record) → ℕ → (Value → List (List Value) → List (List Value) → ℕ) → Meaning
program reduce parts distance = record {
  map = λ i j s row. same row;
  reduce = λ i j. reduce j;
  partition = λ i j key. default_part key parts;
  distance = distance;
  map_uses_round = λ j s. false;
  partition_uses_round = λ j. false;
  keeps_key = λ j. false;
}

-- a shape of tables of pairs, of which the first is the start
abbrev pub shape : ℕ → ℕ → Bool → ℕ → ℕ → List Step → Shape
shape parts rounds exact threshold tables steps = record {
  parts = parts;
  rounds = rounds;
  exact = exact;
  threshold = threshold;
  start = 0;
  tables = if tables == 1 then pairs ∷ [] else pairs ∷ pairs ∷ [];
  blocks = [];
  steps = steps;
  reducer_output = false;
}

-- no group is far from another
abbrev pub none : Value → List (List Value) → List (List Value) → ℕ
none key old new = 0

-- a program of predefined functions whose steps have these reduces, each over two sources at most, over so many parts
abbrev pub predefined : ℕ → List Use → Meaning
predefined parts reduces = meaning_of [] (record { steps = map (λ (reduce : Use). record { maps = Same ∷ Same ∷ []; reduce = reduce; partition = Default }) reduces; distance = Default }) parts

-- ---- distances by hops

-- the program that finds how far each node is from the start
abbrev pub hops : Meaning
hops = predefined 2 (Hop ∷ Least ∷ [])

-- its shape, of at most so many rounds
abbrev pub hops_shape : ℕ → Shape
hops_shape rounds = shape 2 rounds true 1 2 (step (source State ∷ source (Table 1 None) ∷ []) ∷ step (source Prev ∷ source (Table 0 None) ∷ []) ∷ [])

-- its links: from node 1 to 2, and from 2 to 3
abbrev pub links : List Record
links = pair 1 2 ∷ pair 2 3 ∷ []

-- ---- how many links each key has

-- ten keys further on, how many links a key has
abbrev pub count : Value → List (List (List Value)) → List Record
count (Int k) (s ∷ t ∷ []) = made (Int (add k (pos 10))) (Int (pos (length t)) ∷ []) ∷ []
count key groups = []

-- the program that counts the links of each key
abbrev pub counts : Meaning
counts = program (λ j. count) 2 none

-- its shape, of two rounds
abbrev pub counts_shape : Shape
counts_shape = shape 2 2 true 1 2 (step (source State ∷ source (Table 1 None) ∷ []) ∷ [])

-- ---- one job, and a table that is read in round 2 only

-- the program that keeps the least of each key
abbrev pub leasts : Meaning
leasts = predefined 1 (Least ∷ [])

-- a shape of one round for it
abbrev pub one_job_shape : Shape
one_job_shape = shape 1 1 true 1 1 (step (source State ∷ []) ∷ [])

-- a shape for it with a table that is read in round 2 only
abbrev pub late_shape : Shape
late_shape = shape 1 3 true 1 2 (step (source State ∷ source (Table 1 (Some 2)) ∷ []) ∷ [])

-- ---- ranks in parts per million

-- the number of a field list
abbrev pub number : List Value → ℤ
number (Int x ∷ fields) = x
number fields = pos 0

-- the sum of the numbers of a group
abbrev pub total : List (List Value) → ℤ
total [] = pos 0
total (fields ∷ group) = number fields +ℤ total group

-- what each of these targets gets of a rank: 85 of 100, shared among them
abbrev pub part_of : ℤ → List (List Value) → List Value
part_of x targets = Int (int_div (x *ℤ pos 85) (pos (length targets) *ℤ pos 100)) ∷ []

-- what each target of a key gets of one rank of it
abbrev pub shared : List (List Value) → List Value → List Record
shared targets rank = flat_map (λ u. keyed u (part_of (number rank) targets)) targets

-- no rank for the key itself, and the shares of its targets
abbrev pub share : Value → List (List (List Value)) → List Record
share key (ranks ∷ targets ∷ []) = made key (Int (pos 0) ∷ []) ∷ flat_map (shared targets) ranks
share key groups = []

-- what a key has beforehand, and all that it gets
abbrev pub summed : Value → List (List (List Value)) → List Record
summed key (group ∷ []) = made key (Int (pos 150000 +ℤ total group) ∷ []) ∷ []
summed key groups = []

-- a number without its sign
abbrev pub size : ℤ → ℕ
size (pos n) = n
size (negsuc n) = n + 1

-- how far the rank of a key is from that of the round before
abbrev pub moved : Value → List (List Value) → List (List Value) → ℕ
moved key old new = size (total new +ℤ (negsuc 0 *ℤ total old))

-- the program of ranks: its first step shares them out, and its second sums them up
abbrev pub ranks : Meaning
ranks = program (λ j. if j == 1 then share else summed) 1 moved

-- its shape, which ends below a distance of 1400000
abbrev pub ranks_shape : Shape
ranks_shape = shape 1 50 false 1400000 2 (step (source State ∷ source (Table 1 None) ∷ []) ∷ step (source Prev ∷ []) ∷ [])
