-- What the schemas of steps keep.
use Rattle.std.proofs.Common.{suc, ◌≡◌, ◌≤◌, true, false, Ok, List, [], ◌∷◌, length, map, Option, None, Some, refl, ap, sym, ◌∙◌, subst, arith}
use Rattle.std.specs.List.{AllByRecursion}
use Rattle.std.proofs.lemmas.Bool.{and_parts, false≢true}
use Rattle.std.proofs.lemmas.Option.{slice_get_within}
use Rattle.function_language.specs.declared.tree.Function.{Function as Written}
use Rattle.hal_base.specs.declared.fields.Schema.{Schema}
use Rattle.hal_base.specs.declared.shape.Origin.{Origin}
use Rattle.hal_base.specs.declared.shape.Origin.TheVariants.{State, Prev, Table}
use Rattle.hal_base.specs.declared.shape.Source.{Source}
use Rattle.hal_base.specs.declared.shape.Step.{Step}
use Rattle.hal_base.specs.declared.value.Kind.{Kind}
use Rattle.hal_base.specs.declared.value.Kind.TheVariants as kind
use Rattle.hal_base.specs.Shapes.{HasFewSources, IsTable, ReadFrom, StepsReadFrom, key_kind}
use Rattle.program_sketch.specs.declared.fault.What.TheVariants.{SchemaMismatch}
use Rattle.type_checker.specs.Kinds.{same_kind}
use Rattle.type_checker.specs.declared.uses.Use.{Use}
use Rattle.type_checker.specs.declared.uses.UseStep.{UseStep}
use Rattle.loop_program.specs.declared.places.NamedSource.{NamedSource}
use Rattle.loop_program.specs.declared.places.NamedStep.{NamedStep}
use Rattle.loop_program.specs.Found.{demand, or_wrong}
use Rattle.loop_program.specs.Programs.{step_uses}
use Rattle.loop_program.specs.Schemas.{map_makes, partition_takes, reduce_makes, same_kinds, same_schema, schema_read, source_typed, sources_typed, step_typed, steps_typed, suits}
use Rattle.type_checker.proofs.Binding.{bind_ok, then_ok}
use Rattle.loop_program.proofs.Chains.{demanded, is_there, ok_same}
use Rattle.loop_program.proofs.KeptLimits.{IsNamedTable, NamedFrom, StepsFrom}

-- ---- kinds

pub one_kind : (a b : Kind) → same_kind a b ≡ true → a ≡ b
one_kind kind.Int kind.Int e = refl
one_kind kind.Int kind.Text e = absurd (false≢true e)
one_kind kind.Text kind.Int e = absurd (false≢true e)
one_kind kind.Text kind.Text e = refl

pub one_list : (some others : List Kind) → same_kinds some others ≡ true → some ≡ others
one_list [] [] e = refl
one_list [] (b ∷ others) e = absurd (false≢true e)
one_list (a ∷ some) [] e = absurd (false≢true e)
one_list (a ∷ some) (b ∷ others) e =
    let parts = and_parts (same_kind a b) (same_kinds some others) e in
    let first = one_kind a b parts.0 in
    let rest = one_list some others parts.1 in
    cc

abbrev schema_is : Kind → List Kind → Schema
schema_is key fields = record { key = key; fields = fields }

pub one_schema : (a b : Schema) → same_schema a b ≡ true → a ≡ b
one_schema a b e =
    let parts = and_parts (same_kind a.key b.key) (same_kinds a.fields b.fields) e in
    let first = one_kind a.key b.key parts.0 in
    let rest = one_list a.fields b.fields parts.1 in
    ap (λ key. schema_is key a.fields) first ∙ ap (schema_is b.key) rest

-- ---- sources

-- the map that is used makes the source's stream of the records that it takes, and none is kept over the rounds
pub record SourceIsTyped (functions : List Written) (takes : Origin → Option Schema) (map : Use) (source : Source) : Type 0 where
  pub schema : Schema
  pub there : takes source.from ≡ Some schema
  pub makes : map_makes functions map schema ≡ Some source.stream
  pub not_kept : source.reducer_input ≡ false

-- there is one map for each source
abbrev pub SourcesAreTyped : List Written → (Origin → Option Schema) → List Use → List Source → Type 0
SourcesAreTyped functions takes [] [] = Unit {0}
SourcesAreTyped functions takes [] (source ∷ sources) = ⊥
SourcesAreTyped functions takes (map ∷ maps) [] = ⊥
SourcesAreTyped functions takes (map ∷ maps) (source ∷ sources) = SourceIsTyped functions takes map source × SourcesAreTyped functions takes maps sources

-- a table with a schema is one that there is
is_table : (tables : List Schema) (state before : Schema) (from : Origin) (schema : Schema) → IsNamedTable from → schema_read tables state before from ≡ Some schema → IsTable tables from
is_table tables state before State schema n e = absurd n
is_table tables state before Prev schema n e = absurd n
is_table tables state before (Table t None) schema n e = slice_get_within tables t schema e
is_table tables state before (Table t (Some round)) schema n e = (slice_get_within tables t schema e, n.0, n.1)

-- a source that is found to be typed is so
source_typed_so : (functions : List Written) (takes : Origin → Option Schema) (key : Option Kind) (named : NamedSource) (source : Source) → source_typed functions takes key named ≡ Ok source → SourceIsTyped functions takes named.map.what source × (source.from ≡ named.from) × (suits key source.stream.key ≡ true)
source_typed_so functions takes key named source e =
    let schema = bind_ok (or_wrong (takes named.from) named.map.line SchemaMismatch) _ source e in
    let stream = bind_ok (or_wrong (map_makes functions named.map.what schema.0) named.map.line SchemaMismatch) _ source schema.2 in
    let suited = then_ok (demand (suits key stream.0.key) named.map.line SchemaMismatch) _ source stream.2 in
    let there = is_there (takes named.from) named.map.line SchemaMismatch schema.0 schema.1 in
    let makes = is_there (map_makes functions named.map.what schema.0) named.map.line SchemaMismatch stream.0 stream.1 in
    let suit = demanded (suits key stream.0.key) named.map.line SchemaMismatch suited.0 suited.1 in
    subst (λ (it : Source). SourceIsTyped functions takes named.map.what it × (it.from ≡ named.from) × (suits key it.stream.key ≡ true)) (ok_same suited.2)
    (record { schema = schema.0; there = there; makes = makes; not_kept = refl }, refl, suit)

module _ (functions : List Written) (tables : List Schema) (state before : Schema) where
  abbrev takes : Origin → Option Schema
  takes = schema_read tables state before

  -- what a list of sources keeps behind a stream with this key
  record Kept (key : Kind) (named : List NamedSource) (sources : List Source) : Type 0 where
    long : length sources ≡ length named
    typed : SourcesAreTyped functions takes (map (λ (source : NamedSource). source.map.what) named) sources
    keys : AllByRecursion (λ (source : Source). source.stream.key ≡ key) sources
    named_tables : AllByRecursion (λ (source : NamedSource). IsNamedTable source.from) named → AllByRecursion (λ (source : Source). IsTable tables source.from) sources

  none_kept : (key : Kind) → Kept key [] []
  none_kept key = record { long = refl; typed = tt; keys = tt; named_tables = λ t. tt }

  sources_kept : (key : Kind) (named : List NamedSource) (sources : List Source) → sources_typed functions takes (Some key) named ≡ Ok sources → Kept key named sources
  sources_kept key [] sources e = subst (Kept key []) (ok_same e) (none_kept key)
  sources_kept key (source ∷ named) sources e =
      let first = bind_ok (source_typed functions takes (Some key) source) _ sources e in
      let rest = bind_ok (sources_typed functions takes (Some first.0.stream.key) named) _ sources first.2 in
      let typed = source_typed_so functions takes (Some key) source first.0 first.1 in
      let same : key ≡ first.0.stream.key = one_kind key first.0.stream.key typed.2 in
      let others : Kept key named rest.0 = sources_kept key named rest.0 (subst (λ (k : Kind). sources_typed functions takes (Some k) named ≡ Ok rest.0) (sym same) rest.1) in
      subst (Kept key (source ∷ named)) (ok_same rest.2)
      (record {
        long = ap suc others.long;
        typed = (typed.0, others.typed);
        keys = (sym same, others.keys);
        named_tables = λ t. (is_table tables state before first.0.from typed.0.schema (subst IsNamedTable (sym typed.1) t.0) typed.0.there, others.named_tables t.1);
      })

  -- what the sources of a step keep
  record AllKept (from : Origin) (named : List NamedSource) (sources : List Source) : Type 0 where
    long : length sources ≡ length named
    typed : SourcesAreTyped functions takes (map (λ (source : NamedSource). source.map.what) named) sources
    keys : AllByRecursion (λ (source : Source). source.stream.key ≡ key_kind sources) sources
    read : ReadFrom tables from sources

  all_kept : (from : Origin) (named : List NamedSource) (sources : List Source) → NamedFrom from named → sources_typed functions takes None named ≡ Ok sources → AllKept from named sources
  all_kept from [] sources n e = absurd n
  all_kept from (source ∷ named) sources n e =
      let first = bind_ok (source_typed functions takes None source) _ sources e in
      let rest = bind_ok (sources_typed functions takes (Some first.0.stream.key) named) _ sources first.2 in
      let typed = source_typed_so functions takes None source first.0 first.1 in
      let others = sources_kept first.0.stream.key named rest.0 rest.1 in
      subst (AllKept from (source ∷ named)) (ok_same rest.2)
      (record {
        long = ap suc others.long;
        typed = (typed.0, others.typed);
        keys = (refl, others.keys);
        read = (typed.1 ∙ n.0, others.named_tables n.1);
      })

-- ---- steps

-- the sources of a step are typed, their streams have keys of one kind, which its partition takes, and its reduce makes its output of them
pub record StepIsTyped (functions : List Written) (takes : Origin → Option Schema) (uses : UseStep) (step : Step) : Type 0 where
  pub sources : SourcesAreTyped functions takes uses.maps step.sources
  pub keys : AllByRecursion (λ (source : Source). source.stream.key ≡ key_kind step.sources) step.sources
  pub reduce : reduce_makes functions uses.reduce step.sources ≡ Some step.out
  pub partition : partition_takes functions uses.partition (key_kind step.sources) ≡ true

-- there are the functions of one step for each
abbrev pub StepsAreTyped : List Written → List Schema → Schema → Schema → List UseStep → List Step → Type 0
StepsAreTyped functions tables state before [] [] = Unit {0}
StepsAreTyped functions tables state before [] (step ∷ steps) = ⊥
StepsAreTyped functions tables state before (uses ∷ others) [] = ⊥
StepsAreTyped functions tables state before (uses ∷ others) (step ∷ steps) = StepIsTyped functions (schema_read tables state before) uses step × StepsAreTyped functions tables state step.out others steps

-- what the steps keep, where the first begins with this
pub record StepsKept (functions : List Written) (tables : List Schema) (state : Schema) (from : Origin) (before : Schema) (named : List NamedStep) (steps : List Step) : Type 0 where
  pub long : length steps ≡ length named
  pub typed : StepsAreTyped functions tables state before (map step_uses named) steps
  pub few : AllByRecursion HasFewSources steps
  pub read : StepsReadFrom tables from steps

step_kept : (functions : List Written) (tables : List Schema) (state before : Schema) (from : Origin) (named : NamedStep) (step : Step) → length named.sources ≤ 8 → NamedFrom from named.sources → step_typed functions (schema_read tables state before) named ≡ Ok step → StepIsTyped functions (schema_read tables state before) (step_uses named) step × HasFewSources step × ReadFrom tables from step.sources
step_kept functions tables state before from named step l n e =
    let takes = schema_read tables state before in
    let sources = bind_ok (sources_typed functions takes None named.sources) _ step e in
    let out = bind_ok (or_wrong (reduce_makes functions named.reduce.what sources.0) named.reduce.line SchemaMismatch) _ step sources.2 in
    let partition = then_ok (demand (partition_takes functions named.partition.what (key_kind sources.0)) named.partition.line SchemaMismatch) _ step out.2 in
    let kept = all_kept functions tables state before from named.sources sources.0 n sources.1 in
    let long : length sources.0 ≡ length named.sources = kept.long in
    let made = is_there (reduce_makes functions named.reduce.what sources.0) named.reduce.line SchemaMismatch out.0 out.1 in
    let parted = demanded (partition_takes functions named.partition.what (key_kind sources.0)) named.partition.line SchemaMismatch partition.0 partition.1 in
    subst (λ (it : Step). StepIsTyped functions takes (step_uses named) it × HasFewSources it × ReadFrom tables from it.sources) (ok_same partition.2)
    (record { sources = kept.typed; keys = kept.keys; reduce = made; partition = parted }, omega arith, kept.read)

pub steps_kept : (functions : List Written) (tables : List Schema) (state : Schema) (from : Origin) (before : Schema) (named : List NamedStep) (steps : List Step) → StepsFrom from named → steps_typed functions tables state before named ≡ Ok steps → StepsKept functions tables state from before named steps
steps_kept functions tables state from before [] steps n e =
    subst (StepsKept functions tables state from before []) (ok_same e) (record { long = refl; typed = tt; few = tt; read = tt })
steps_kept functions tables state from before (step ∷ named) steps n e =
    let first = bind_ok (step_typed functions (schema_read tables state before) step) _ steps e in
    let rest = bind_ok (steps_typed functions tables state first.0.out named) _ steps first.2 in
    let kept = step_kept functions tables state before from step first.0 n.0 n.1 first.1 in
    let others = steps_kept functions tables state Prev first.0.out named rest.0 n.2 rest.1 in
    subst (StepsKept functions tables state from before (step ∷ named)) (ok_same rest.2)
    (record { long = ap suc others.long; typed = (kept.0, others.typed); few = (kept.1, others.few); read = (kept.2, others.read) })
