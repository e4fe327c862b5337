-- What inputs make of a round is what the sources make of it.
use Rattle.std.proofs.Common.{◌≡◌, ◌≤◌, ℕ, suc, ◌+◌, true, List, [], ◌∷◌, None, refl, ap, ◌∙◌, map, length}
use Rattle.std.specs.List.{AllByRecursion}
use Rattle.hal_base.specs.declared.record.Record.{Record}
use Rattle.hal_base.specs.declared.shape.Origin.{Origin}
use Rattle.hal_base.specs.declared.shape.Source.{Source}
use Rattle.hal_base.specs.declared.shape.Step.{Step}
use Rattle.hal_base.specs.declared.shape.Shape.{Shape}
use Rattle.hal_base.specs.Meaning.{Meaning}
use Rattle.plain_job.specs.Job.{job, stream}
use Rattle.hal_base.specs.Shapes.{HasFewSources}
use Rattle.plain_job.specs.Chain.{numbers_from, part_out, source_rows, parts_from, step_out, streams, together}
use Rattle.sorted_parts.specs.Spills.{spilled}
use Rattle.memory_run.specs.declared.inputs.Input.{Input}
use Rattle.memory_run.specs.declared.inputs.Input.TheVariants.{Kept, Read}
use Rattle.memory_run.specs.steps.Sections.{sections}
use Rattle.memory_run.specs.steps.Inputs.{AllBeside, FewInEach, FewInputs, Serve, ServeStep, ServeSteps, Serves, all_given, given, parts_made, plan_made, read_by_sources, read_by_steps, step_made, with_made}
use Rattle.memory_run.proofs.Parting.{parts_are}
use Rattle.memory_run.proofs.Walking.{round_walked, steps_out}

module _ (m : Meaning) (n i j : ℕ) (rows left : Origin → List Record) where
  one_given : (s : ℕ) (source : Source) (input : Input) → Serves m n rows left i j s source input → given m n left i j s input ≡ sections m i j 0 n (stream (m.map i j s) (rows source.from))
  one_given s source (Kept made) h = h
  one_given s source (Read from) h = ap (λ read. spilled m i j s read n) h

  given_is : (s : ℕ) (sources : List Source) (inputs : List Input) → AllBeside (Serves m n rows left i j) s sources inputs → all_given m n left i j s inputs ≡ map (sections m i j 0 n) (streams m i j rows s sources)
  given_is s [] [] h = refl
  given_is s [] (input ∷ inputs) h = absurd h
  given_is s (source ∷ sources) [] h = absurd h
  given_is s (source ∷ sources) (input ∷ inputs) h =
      ap (λ x. x ∷ all_given m n left i j (s + 1) inputs) (one_given s source input h.0)
      ∙ ap (λ xs. sections m i j 0 n (stream (m.map i j s) (rows source.from)) ∷ xs) (given_is (s + 1) sources inputs h.1)

  -- the parts of a step that inputs serve
  pub step_is : (sources : List Source) (inputs : List Input) → ServeStep m n rows left i j sources inputs → step_made m n left i j inputs ≡ map (part_out m i j (streams m i j rows 1 sources)) (numbers_from 0 n)
  step_is sources inputs h = ap (parts_made (job (m.reduce i j) (λ _. true)) n) (given_is 1 sources inputs h) ∙ parts_are m i j 0 n (streams m i j rows 1 sources)

module _ (m : Meaning) (shape : Shape) (tables left : List (List Record)) (state held : List Record) (i : ℕ) where
  -- the parts of steps that inputs serve
  pub plan_is : (j : ℕ) (before : List (List Record)) (steps : List Step) (plan : List (List Input)) → ServeSteps m shape.parts tables state left held i j steps plan → plan_made m shape.parts left i j held before plan ≡ steps_out m shape tables i j state before steps
  plan_is j before [] [] h = refl
  plan_is j before [] (inputs ∷ plan) h = absurd h
  plan_is j before (step ∷ steps) [] h = absurd h
  plan_is j before (step ∷ steps) (inputs ∷ plan) h =
      ap (λ out. plan_made m shape.parts left i (j + 1) held out plan) (step_is m shape.parts i j (source_rows tables i state (together before)) (source_rows left i held (together before)) step.sources inputs (h.0 (together before)))
      ∙ plan_is (j + 1) (step_out m shape tables i j state (together before) step) steps plan h.1

-- with nothing made already, inputs stay as they are
pub none_made : (plan : List (List Input)) → with_made None plan ≡ plan
none_made [] = refl
none_made (inputs ∷ plan) = refl

module _ (m : Meaning) (n i j : ℕ) (rows : Origin → List Record) where
  read_step : (s : ℕ) (sources : List Source) → AllBeside (Serves m n rows rows i j) s sources (read_by_sources sources)
  read_step s [] = tt
  read_step s (source ∷ sources) = (refl, read_step (s + 1) sources)

module _ (m : Meaning) (n i : ℕ) (tables : List (List Record)) (state : List Record) where
  read_steps : (j : ℕ) (steps : List Step) → ServeSteps m n tables state tables state i j steps (read_by_steps steps)
  read_steps j [] = tt
  read_steps j (step ∷ steps) = (λ before. read_step m n i j (source_rows tables i state before) 1 step.sources, read_steps (j + 1) steps)

-- what reads where the sources read serves them
pub read_serves : (m : Meaning) (shape : Shape) (tables : List (List Record)) (plan : List (List Input)) → plan ≡ read_by_steps shape.steps → Serve m shape tables tables plan
read_serves m shape tables plan e = rw e (λ i state. read_steps m shape.parts i tables state 1 shape.steps)

as_many : (sources : List Source) → length (read_by_sources sources) ≡ length sources
as_many [] = refl
as_many (source ∷ sources) = ap suc (as_many sources)

as_many_steps : (steps : List Step) → length (read_by_steps steps) ≡ length steps
as_many_steps [] = refl
as_many_steps (step ∷ steps) = ap suc (as_many_steps steps)

all_few : (steps : List Step) → AllByRecursion HasFewSources steps → AllByRecursion FewInputs (read_by_steps steps)
all_few [] a = tt
all_few (step ∷ steps) a = (rw (as_many step.sources) a.0, all_few steps a.1)

-- a shape with few sources is served by few inputs
pub few_read : (steps : List Step) (plan : List (List Input)) → plan ≡ read_by_steps steps → length steps ≤ 8 → AllByRecursion HasFewSources steps → FewInEach plan
few_read steps plan e l f = rw e (rw (as_many_steps steps) l, all_few steps f)

-- in a round, the parts that inputs make are those of the chain
pub round_is : (m : Meaning) (shape : Shape) (tables left : List (List Record)) (i : ℕ) (state : List Record) (plan : List (List Input)) → Serve m shape tables left plan → plan_made m shape.parts left i 1 state [] (with_made None plan) ≡ parts_from m shape tables i state (length shape.steps)
round_is m shape tables left i state plan h = ap (plan_made m shape.parts left i 1 state []) (none_made plan) ∙ plan_is m shape tables left state state i 1 [] shape.steps plan (h i state) ∙ round_walked m shape tables i state
