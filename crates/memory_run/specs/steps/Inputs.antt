-- What the sources of a chain are given in place of what they read, for the contracts of private steps alone.
use Rattle.std.specs.Prelude.{◌≡◌, ◌==◌, ◌≤◌, ℕ, zero, suc, ◌+◌, Bool, true, false, List, [], ◌∷◌, Option, None, Some, map, length}
use Rattle.std.specs.List.{AllByRecursion, list_any}
use Rattle.hal_base.specs.declared.record.Record.{Record}
use Rattle.hal_base.specs.declared.shape.Origin.{Origin}
use Rattle.hal_base.specs.declared.shape.Origin.TheVariants.{State, Prev, Table}
use Rattle.hal_base.specs.declared.shape.Source.{Source}
use Rattle.hal_base.specs.declared.shape.Step.{Step}
use Rattle.hal_base.specs.declared.shape.Shape.{Shape}
use Rattle.hal_base.specs.Meaning.{Meaning}
use Rattle.plain_job.specs.Job.{job}
use Rattle.plain_job.specs.Chain.{source_rows, together}
use Rattle.sorted_parts.specs.Spills.{spilled}
use Rattle.memory_run.specs.declared.inputs.Input.{Input}
use Rattle.memory_run.specs.declared.inputs.Input.TheVariants.{Kept, Read}
use Rattle.memory_run.specs.steps.Sections.{first_section, later_sections}

-- where each source of a step reads
abbrev pub read_by_sources : List Source → List Input
read_by_sources sources = map (λ (source : Source). Read source.from) sources

-- where each source of each step reads
abbrev pub read_by_steps : List Step → List (List Input)
read_by_steps steps = map (λ (step : Step). read_by_sources step.sources) steps

-- whether two origins read the same thing, in whatever rounds
abbrev pub same_place : Origin → Origin → Bool
same_place State State = true
same_place State Prev = false
same_place State (Table u only) = false
same_place Prev State = false
same_place Prev Prev = true
same_place Prev (Table u only) = false
same_place (Table t once) State = false
same_place (Table t once) Prev = false
same_place (Table t once) (Table u only) = t == u

-- whether a input still reads there
abbrev pub reads : Origin → Input → Bool
reads place (Kept sections) = false
reads place (Read from) = same_place place from

-- the tables, of which the one of this number has no records left
abbrev pub emptied : List (List Record) → ℕ → List (List Record)
emptied [] n = []
emptied (rows ∷ tables) zero = [] ∷ tables
emptied (rows ∷ tables) (suc n) = rows ∷ emptied tables n

-- the sections that a input gives source s of step j in round i, where origins have these rows
abbrev pub given : Meaning → ℕ → (Origin → List Record) → ℕ → ℕ → ℕ → Input → List (List Record)
given m n rows i j s (Kept sections) = sections
given m n rows i j s (Read from) = spilled m i j s (rows from) n

-- the sections that inputs give the sources of step j in round i, of which the first has number s
abbrev pub all_given : Meaning → ℕ → (Origin → List Record) → ℕ → ℕ → ℕ → List Input → List (List (List Record))
all_given m n rows i j s [] = []
all_given m n rows i j s (input ∷ inputs) = given m n rows i j s input ∷ all_given m n rows i j (s + 1) inputs

-- inputs of which the first is replaced by sections that are made already
abbrev pub with_first : Option (List (List Record)) → List Input → List Input
with_first None inputs = inputs
with_first (Some sections) [] = []
with_first (Some sections) (input ∷ inputs) = Kept sections ∷ inputs

-- the inputs of steps, of which those of the first begin with sections that are made already
abbrev pub with_made : Option (List (List Record)) → List (List Input) → List (List Input)
with_made made [] = []
with_made made (inputs ∷ plan) = with_first made inputs ∷ plan

-- so many parts: what the job makes of the first sections, of the second, and so on
abbrev pub parts_made : (List (List Record) → List Record) → ℕ → List (List (List Record)) → List (List Record)
parts_made makes zero spills = []
parts_made makes (suc n) spills = makes (map first_section spills) ∷ parts_made makes n (map later_sections spills)

-- all parts of what step j emits in round i
abbrev pub step_made : Meaning → ℕ → (Origin → List Record) → ℕ → ℕ → List Input → List (List Record)
step_made m n rows i j inputs = parts_made (job (m.reduce i j) (λ _. true)) n (all_given m n rows i j 1 inputs)

-- the parts of the last of these steps, of which the first has number j and reads the output before
abbrev pub plan_made : Meaning → ℕ → List (List Record) → ℕ → ℕ → List Record → List (List Record) → List (List Input) → List (List Record)
plan_made m n tables i j state before [] = before
plan_made m n tables i j state before (inputs ∷ plan) = plan_made m n tables i (j + 1) state (step_made m n (source_rows tables i state (together before)) i j inputs) plan

-- the lists are as long as each other, and this holds of each item and the one beside it, numbered from s on
abbrev pub AllBeside : {A B : Type 0} → (ℕ → A → B → Type 0) → ℕ → List A → List B → Type 0
AllBeside P s [] [] = Unit {0}
AllBeside P s [] (y ∷ ys) = ⊥
AllBeside P s (x ∷ xs) [] = ⊥
AllBeside P s (x ∷ xs) (y ∷ ys) = P s x y × AllBeside P (s + 1) xs ys

-- a input gives source s of step j in round i what it is to have: origins have the first rows there, and a input that reads finds the others
abbrev pub Serves : Meaning → ℕ → (Origin → List Record) → (Origin → List Record) → ℕ → ℕ → ℕ → Source → Input → Type 0
Serves m n rows left i j s source (Kept sections) = sections ≡ spilled m i j s (rows source.from) n
Serves m n rows left i j s source (Read from) = left from ≡ rows source.from

-- inputs serve the sources of step j in round i
abbrev pub ServeStep : Meaning → ℕ → (Origin → List Record) → (Origin → List Record) → ℕ → ℕ → List Source → List Input → Type 0
ServeStep m n rows left i j sources inputs = AllBeside (Serves m n rows left i j) 1 sources inputs

-- the inputs of steps, of which the first has number j, serve them in round i, with the first tables and state, where the others are left
abbrev pub ServeSteps : Meaning → ℕ → List (List Record) → List Record → List (List Record) → List Record → ℕ → ℕ → List Step → List (List Input) → Type 0
ServeSteps m n tables state left held i j steps plan =
    AllBeside (λ j (step : Step) inputs. (before : List Record) → ServeStep m n (source_rows tables i state before) (source_rows left i held before) i j step.sources inputs) j steps plan

-- the inputs of steps serve them in each round, with the first tables, where the others are left
abbrev pub Serve : Meaning → Shape → List (List Record) → List (List Record) → List (List Input) → Type 0
Serve m shape tables left plan = (i : ℕ) (state : List Record) → ServeSteps m shape.parts tables state left state i 1 shape.steps plan

-- of all that inputs read, the state is read by the first source of the first step alone, and the start table by none
pub record ReadsStateOnce (start : ℕ) (plan : List (List Input)) : Type 0 where
  pub others : List Input
  pub later : List (List Input)
  pub plan_is : plan ≡ (Read State ∷ others) ∷ later
  pub others_not : list_any (reads State) others ≡ false
  pub later_not : list_any (list_any (reads State)) later ≡ false
  pub start_not : list_any (list_any (reads (Table start None))) plan ≡ false

-- there are at most eight inputs
abbrev pub FewInputs : List Input → Type 0
FewInputs inputs = length inputs ≤ 8

-- there are inputs of at most eight steps, each of which has few
abbrev pub FewInEach : List (List Input) → Type 0
FewInEach plan = (length plan ≤ 8) × AllByRecursion FewInputs plan
