-- What the limits keep.
use Rattle.std.proofs.Common.{ℕ, suc, ℤ, pos, negsuc, ◌≡◌, ◌≤◌, true, Ok, List, [], ◌∷◌, length, min, Option, None, Some, refl, ap, subst, arith, nat_le}
use Rattle.std.specs.List.{AllByRecursion}
use Rattle.std.proofs.lemmas.Bool.{and_parts, false≢true, leb-true}
use Rattle.std.proofs.Math.Nat.{min-eq_left}
use Rattle.function_language.specs.declared.tree.Function.{Function}
use Rattle.program_tokens.specs.declared.token.Number.{Number}
use Rattle.hal_base.specs.declared.shape.Origin.{Origin}
use Rattle.hal_base.specs.declared.shape.Origin.TheVariants.{State, Prev, Table}
use Rattle.program_sketch.specs.declared.sketch.InputSketch.{InputSketch}
use Rattle.program_sketch.specs.declared.sketch.StepSketch.{StepSketch}
use Rattle.program_sketch.specs.declared.sketch.TableSketch.{TableSketch}
use Rattle.loop_program.specs.declared.places.NamedSource.{NamedSource}
use Rattle.loop_program.specs.declared.places.NamedStep.{NamedStep}
use Rattle.loop_program.specs.declared.typing.TypedSketch.{TypedSketch}
use Rattle.loop_program.specs.Found.{each}
use Rattle.loop_program.specs.Limits.{counts, few, function_line, function_within, input_line, input_within, is_count, limits, only_within, step_line, step_within, table_line, table_within}
use Rattle.loop_program.specs.Places.{count_of, input_named, map_named, only_of, partition_named, reduce_named, step_named, steps_named, table_named}
use Rattle.type_checker.proofs.Binding.{bind_ok, then_ok}
use Rattle.loop_program.proofs.Chains.{each_length, expected, few_length, few_within, ok_same}
use Rattle.type_checker.specs.Checked.{fine}

-- ---- numbers

number_kept : (most : ℕ) (value : ℤ) → most ≤ 10000 → is_count most value ≡ true → (1 ≤ count_of value) × (count_of value ≤ most)
number_kept most (pos n) l e =
    let parts = and_parts (nat_le 1 n) (nat_le n most) e in
    let low = leb-true 1 n parts.0 in
    let high = leb-true n most parts.1 in
    let below : n ≤ 4294967295 = omega arith in
    let same : min n 4294967295 ≡ n = min-eq_left below in
    rw same (low, high)
number_kept most (negsuc n) l e = absurd (false≢true e)

-- a number that is within its limits
pub count_kept : (most : ℕ) (number : Number) (u : Unit {0}) → most ≤ 10000 → counts most number ≡ Ok u → (1 ≤ count_of number.value) × (count_of number.value ≤ most)
count_kept most number u l e = number_kept most number.value l (expected (is_count most number.value) number.line u e)

-- ---- the program

-- a program within the limits
pub record Within (sketch : TypedSketch) : Type 0 where
  pub parts : (1 ≤ count_of sketch.parts.value) × (count_of sketch.parts.value ≤ 64)
  pub rounds : (1 ≤ count_of sketch.rounds.value) × (count_of sketch.rounds.value ≤ 10000)
  pub tables : length sketch.tables ≤ 16
  pub functions : few function_line function_within 64 sketch.functions ≡ fine
  pub steps : length sketch.steps ≤ 8
  pub inputs : AllByRecursion (λ (step : StepSketch). step_within step ≡ fine) sketch.steps

pub limits_kept : (sketch : TypedSketch) (u : Unit {0}) → limits sketch ≡ Ok u → Within sketch
limits_kept sketch u e =
    let parts = then_ok (counts 64 sketch.parts) _ u e in
    let rounds = then_ok (counts 10000 sketch.rounds) _ u parts.2 in
    let tables = then_ok (few table_line table_within 16 sketch.tables) _ u rounds.2 in
    let functions = then_ok (few function_line function_within 64 sketch.functions) _ u tables.2 in
    record {
      parts = count_kept 64 sketch.parts parts.0 (omega arith) parts.1;
      rounds = count_kept 10000 sketch.rounds rounds.0 (omega arith) rounds.1;
      tables = few_length table_line table_within 16 sketch.tables tables.0 tables.1;
      functions = functions.1;
      steps = few_length step_line step_within 8 sketch.steps u functions.2;
      inputs = few_within step_line step_within 8 sketch.steps u functions.2;
    }

-- ---- the names in its steps

-- a table, in every round or in one that a program may have
abbrev pub IsNamedTable : Origin → Type 0
IsNamedTable State = ⊥
IsNamedTable Prev = ⊥
IsNamedTable (Table t None) = Unit {0}
IsNamedTable (Table t (Some round)) = (1 ≤ round) × (round ≤ 10000)

-- the first source is this, and each other a table
abbrev pub NamedFrom : Origin → List NamedSource → Type 0
NamedFrom first [] = ⊥
NamedFrom first (source ∷ sources) = (source.from ≡ first) × AllByRecursion (λ (source : NamedSource). IsNamedTable source.from) sources

-- the first step begins with this, and each other with the output before
abbrev pub StepsFrom : Origin → List NamedStep → Type 0
StepsFrom first [] = Unit {0}
StepsFrom first (step ∷ steps) = (length step.sources ≤ 8) × NamedFrom first step.sources × StepsFrom Prev steps

only_table : (n : ℕ) (only : Option Number) (u : Unit {0}) → only_within only ≡ Ok u → IsNamedTable (Table n (only_of only))
only_table n None u e = tt
only_table n (Some number) u e = count_kept 10000 number u (omega arith) e

inputs_from : (tables : List TableSketch) (functions : List Function) (inputs : List InputSketch) (named : List NamedSource) → AllByRecursion (λ (input : InputSketch). input_within input ≡ fine) inputs → each (input_named tables functions) inputs ≡ Ok named → AllByRecursion (λ (source : NamedSource). IsNamedTable source.from) named
inputs_from tables functions [] named w e = subst (AllByRecursion (λ (source : NamedSource). IsNamedTable source.from)) (ok_same e) tt
inputs_from tables functions (input ∷ inputs) named w e =
    let first = bind_ok (input_named tables functions input) _ named e in
    let rest = bind_ok (each (input_named tables functions) inputs) _ named first.2 in
    let table = bind_ok (table_named tables input.table) _ first.0 first.1 in
    let map = bind_ok (map_named functions input.map) _ first.0 table.2 in
    let is_table : IsNamedTable first.0.from = subst (λ (source : NamedSource). IsNamedTable source.from) (ok_same map.2) (only_table table.0 input.only tt w.0) in
    subst (AllByRecursion (λ (source : NamedSource). IsNamedTable source.from)) (ok_same rest.2) (is_table, inputs_from tables functions inputs rest.0 w.1 rest.1)

step_from : (tables : List TableSketch) (functions : List Function) (from : Origin) (step : StepSketch) (named : NamedStep) → step_within step ≡ fine → step_named tables functions from step ≡ Ok named → (length named.sources ≤ 8) × NamedFrom from named.sources
step_from tables functions from step named w e =
    let map = bind_ok (map_named functions step.map) _ named e in
    let inputs = bind_ok (each (input_named tables functions) step.inputs) _ named map.2 in
    let reduce = bind_ok (reduce_named functions step.reduce) _ named inputs.2 in
    let partition = bind_ok (partition_named functions step.line step.partition) _ named reduce.2 in
    let few_inputs = few_length input_line input_within 7 step.inputs tt w in
    let long : length inputs.0 ≡ length step.inputs = each_length (input_named tables functions) step.inputs inputs.0 inputs.1 in
    subst (λ (it : NamedStep). (length it.sources ≤ 8) × NamedFrom from it.sources) (ok_same partition.2)
    (omega arith, (refl, inputs_from tables functions step.inputs inputs.0 (few_within input_line input_within 7 step.inputs tt w) inputs.1))

later_from : (tables : List TableSketch) (functions : List Function) (steps : List StepSketch) (named : List NamedStep) → AllByRecursion (λ (step : StepSketch). step_within step ≡ fine) steps → each (step_named tables functions Prev) steps ≡ Ok named → StepsFrom Prev named
later_from tables functions [] named w e = subst (StepsFrom Prev) (ok_same e) tt
later_from tables functions (step ∷ steps) named w e =
    let first = bind_ok (step_named tables functions Prev step) _ named e in
    let rest = bind_ok (each (step_named tables functions Prev) steps) _ named first.2 in
    let from = step_from tables functions Prev step first.0 w.0 first.1 in
    subst (StepsFrom Prev) (ok_same rest.2) (from.0, from.1, later_from tables functions steps rest.0 w.1 rest.1)

-- where the steps of a program take their records from
pub steps_from : (tables : List TableSketch) (functions : List Function) (steps : List StepSketch) (named : List NamedStep) → AllByRecursion (λ (step : StepSketch). step_within step ≡ fine) steps → steps_named tables functions steps ≡ Ok named → StepsFrom State named
steps_from tables functions [] named w e = subst (StepsFrom State) (ok_same e) tt
steps_from tables functions (step ∷ steps) named w e =
    let first = bind_ok (step_named tables functions State step) _ named e in
    let rest = bind_ok (each (step_named tables functions Prev) steps) _ named first.2 in
    let from = step_from tables functions State step first.0 w.0 first.1 in
    subst (StepsFrom State) (ok_same rest.2) (from.0, from.1, later_from tables functions steps rest.0 w.1 rest.1)

pub steps_length : (tables : List TableSketch) (functions : List Function) (steps : List StepSketch) (named : List NamedStep) → steps_named tables functions steps ≡ Ok named → length named ≡ length steps
steps_length tables functions [] named e = subst (λ (it : List NamedStep). length it ≡ 0) (ok_same e) refl
steps_length tables functions (step ∷ steps) named e =
    let first = bind_ok (step_named tables functions State step) _ named e in
    let rest = bind_ok (each (step_named tables functions Prev) steps) _ named first.2 in
    subst (λ (it : List NamedStep). length it ≡ suc (length steps)) (ok_same rest.2) (ap suc (each_length (step_named tables functions Prev) steps rest.0 rest.1))
