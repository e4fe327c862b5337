-- Sections that are made once serve in each round.
use Rattle.std.proofs.Common.{◌≡◌, ℕ, ◌+◌, ◌<◌, false, List, None, ap, ◌∙◌, subst, map, length, get_or, arith}
use Rattle.std.proofs.Math.ListN.{set}
use Rattle.std.proofs.lemmas.List.{length-set}
use Rattle.hal_base.specs.declared.record.Record.{Record}
use Rattle.hal_base.specs.declared.shape.Origin.{Origin}
use Rattle.hal_base.specs.declared.shape.Origin.TheVariants.{Table}
use Rattle.hal_base.specs.declared.shape.Source.{Source}
use Rattle.hal_base.specs.declared.shape.Step.{Step}
use Rattle.hal_base.specs.declared.shape.Shape.{Shape}
use Rattle.hal_base.specs.Meaning.{Meaning, RoundLaw}
use Rattle.hal_base.specs.Shapes.{MayBeKept}
use Rattle.plain_job.specs.Sections.{source_section}
use Rattle.plain_job.proofs.Numbers.{map_same}
use Rattle.plain_job.proofs.Sections.{sections_serve_each_round}
use Rattle.plain_job.specs.Chain.{numbers_from, source_rows, table_at}
use Rattle.sorted_parts.specs.Spills.{spilled}
use Rattle.memory_run.specs.declared.inputs.Input.{Input}
use Rattle.memory_run.specs.declared.inputs.Input.TheVariants.{Kept, Read}
use Rattle.memory_run.specs.steps.Inputs.{FewInEach, FewInputs, Serve, ServeStep, Serves}
use Rattle.memory_run.proofs.Beside.{one_set, all_set}

-- sections that are made once serve in each round
sections_same : (m : Meaning) → RoundLaw m → (i i' j s p n : ℕ) (rows : List Record) → m.map_uses_round j s ≡ false → m.partition_uses_round j ≡ false → map (λ q. source_section m i j s q rows) (numbers_from p n) ≡ map (λ q. source_section m i' j s q rows) (numbers_from p n)
sections_same m r i i' j s p n rows maps parts = map_same (λ q. source_section m i j s q rows) (λ q. source_section m i' j s q rows) (λ q. sections_serve_each_round m r i i' j s q rows maps parts) (numbers_from p n)

-- a source that reads a table is served by the sections that are made of the table
pub kept_serves : (m : Meaning) → RoundLaw m → (n j s t : ℕ) (table : List Record) (made : List (List Record)) (before : Input) → made ≡ spilled m 1 j s table n → before ≡ Read (Table t None) → MayBeKept (Table t None) (m.map_uses_round j s) (m.partition_uses_round j) → (rows left : Origin → List Record) (i : ℕ) (source : Source) → table ≡ left (Table t None) → Serves m n rows left i j s source before → Serves m n rows left i j s source (Kept made)
kept_serves m r n j s t table made before e is k rows left i source here h =
    let read : left (Table t None) ≡ rows source.from = subst (λ input. Serves m n rows left i j s source input) is h in
    e ∙ sections_same m r 1 i j s 0 n table k.map k.partition ∙ ap (λ xs. spilled m i j s xs n) (here ∙ read)

-- one input of a step is changed for one that serves as well
pub one_kept : (m : Meaning) (n j k number : ℕ) (inputs : List Input) (before after : Input) → k < length inputs → number ≡ k + 1 → (rows left : Origin → List Record) (i : ℕ) (sources : List Source) → ((source : Source) → Serves m n rows left i j number source (get_or inputs k before) → Serves m n rows left i j number source after) → ServeStep m n rows left i j sources inputs → ServeStep m n rows left i j sources (set inputs k after)
one_kept m n j k number inputs before after l e rows left i sources f h = one_set (Serves m n rows left i j) 1 k number sources inputs before after l (omega (arith, e)) f h

-- the inputs of one step are changed for such that serve as well
pub step_kept : (m : Meaning) (shape : Shape) (real left : List (List Record)) (plan : List (List Input)) (k number t : ℕ) (table : List Record) (before after : List Input) → k < length plan → number ≡ k + 1 → table ≡ table_at left t → ((rows own : Origin → List Record) (i : ℕ) (sources : List Source) → table ≡ own (Table t None) → ServeStep m shape.parts rows own i number sources (get_or plan k before) → ServeStep m shape.parts rows own i number sources after) → Serve m shape real left plan → Serve m shape real left (set plan k after)
step_kept m shape real left plan k number t table before after l e here f h i state =
    one_set (λ j (step : Step) inputs. (read : List Record) → ServeStep m shape.parts (source_rows real i state read) (source_rows left i state read) i j step.sources inputs) 1 k number shape.steps plan before after l (omega (arith, e))
    (λ step g read. f (source_rows real i state read) (source_rows left i state read) i step.sources here (g read)) (h i state)

-- few inputs stay few
pub few_kept : (plan : List (List Input)) (k : ℕ) (after : List Input) → FewInputs after → FewInEach plan → FewInEach (set plan k after)
few_kept plan k after few f = (rw (length-set plan k after) f.0, all_set FewInputs plan k after few f.1)
