-- Whatever a chain reads and leaves is of the schemas that its shape names.
use Rattle.std.proofs.Common.{◌≡◌, ℕ, zero, suc, ◌+◌, ◌<◌, ◌≤◌, ◌==◌, Bool, true, false, List, [], ◌∷◌, Option, None, Some, refl, sym, ap, ◌∙◌, subst, map, length, arith}
use Rattle.std.specs.Prelude.{if◌then◌else◌}
use Rattle.std.specs.List.{AllByRecursion, filter, flat_map, slice_get}
use Rattle.std.specs.Option.{option_and_then, option_map}
use Rattle.hal_base.specs.declared.fields.Schema.{Schema}
use Rattle.hal_base.specs.declared.record.Record.{Record}
use Rattle.hal_base.specs.declared.shape.Origin.{Origin}
use Rattle.hal_base.specs.declared.shape.Origin.TheVariants.{State, Prev, Table}
use Rattle.hal_base.specs.declared.shape.Shape.{Shape}
use Rattle.hal_base.specs.declared.shape.Source.{Source}
use Rattle.hal_base.specs.declared.shape.Step.{Step}
use Rattle.hal_base.specs.declared.value.Kind.{Kind}
use Rattle.hal_base.specs.declared.value.Value.{Value}
use Rattle.hal_base.specs.Laws.{fields_cmp_total, value_cmp_total}
use Rattle.hal_base.specs.Meaning.{Meaning}
use Rattle.hal_base.specs.Shapes.{IsTable, IsWellFormed, ReadFrom, StepsReadFrom, key_kind, nth, out_schema, source_at, state_schema, step_at, taken}
use Rattle.hal_base.specs.Values.{IsRecordOf}
use Rattle.hal_base.proofs.Sorts.{all_sorted}
use Rattle.hal_base.proofs.Strict.{all_distinct}
use Rattle.plain_job.specs.Chain.{last_out, numbers_from, part_out, parts_by, parts_from, parts_of, rows_read, source_list, source_rows, state_of, stream_of, streams, table_at, together}
use Rattle.plain_job.specs.ChainLaws.{ChainsAreOfTheirSchemas}
use Rattle.plain_job.specs.Fit.{AreFieldsOf, AreRecordsOf, AreTablesOf, FunctionsFit, HaveGroups, IsKeyOf, TablesFit}
use Rattle.plain_job.specs.Job.{fields_of, group, has_key, key_of, keys, stream}
use Rattle.plain_job.proofs.ByNumbers.{no_step, source_of}
use Rattle.plain_job.proofs.Lists.{all_both, all_filtered, all_flat, all_mapped, all_weaker}
use Rattle.plain_job.proofs.Numbers.{nth_behind, nth_first, nth_is}

some_same : {A : Type 0} {a b : A} → Some a ≡ Some b → a ≡ b
some_same e = cc

-- ---- items by number

-- an item below the length is there
pub item_there : {A : Type 0} (xs : List A) (n : ℕ) → n < length xs → (x : A) × (slice_get xs n ≡ Some x)
item_there [] n l = absurd (omega arith)
item_there (x ∷ xs) zero l = (x, refl)
item_there (x ∷ xs) (suc n) l = item_there xs n (omega arith)

-- where an item is there, so is the one before it
item_before : {A : Type 0} (xs : List A) (n : ℕ) (x : A) → slice_get xs (suc n) ≡ Some x → (y : A) × (slice_get xs n ≡ Some y)
item_before [] n x e = absurd (no_step e)
item_before (y ∷ ys) zero x e = (y, refl)
item_before (y ∷ ys) (suc n) x e = item_before ys n x e

-- the table of a schema has its records
tables_fit : (schemas : List Schema) (tables : List (List Record)) (n : ℕ) (schema : Schema) → AreTablesOf schemas tables → slice_get schemas n ≡ Some schema → AreRecordsOf schema (table_at tables n)
tables_fit [] tables n schema t e = absurd (no_step e)
tables_fit (s ∷ schemas) [] n schema t e = absurd t
tables_fit (s ∷ schemas) (rows ∷ tables) zero schema t e = subst (λ (s : Schema). AreRecordsOf s rows) (some_same e) t.0
tables_fit (s ∷ schemas) (rows ∷ tables) (suc n) schema t e = tables_fit schemas tables n schema t.1 e

-- what the first source of a step reads, where that of the first step reads this
abbrev pub first_of : Origin → ℕ → Origin
first_of first zero = first
first_of first (suc k) = Prev

pub read_at : (schemas : List Schema) (first : Origin) (steps : List Step) (k : ℕ) (step : Step) → StepsReadFrom schemas first steps → slice_get steps k ≡ Some step → ReadFrom schemas (first_of first k) step.sources
read_at schemas first [] k step r e = absurd (no_step e)
read_at schemas first (s ∷ steps) zero step r e = subst (λ (s : Step). ReadFrom schemas first s.sources) (some_same e) r.0
read_at schemas first (s ∷ steps) (suc zero) step r e = read_at schemas Prev steps zero step r.1 e
read_at schemas first (s ∷ steps) (suc (suc k)) step r e = read_at schemas Prev steps (suc k) step r.1 e

-- there is a stream for each source, of its schema
abbrev HaveStreams : List Source → List (List Record) → Type 0
HaveStreams [] [] = Unit {0}
HaveStreams [] (rows ∷ ss) = ⊥
HaveStreams (source ∷ sources) [] = ⊥
HaveStreams (source ∷ sources) (rows ∷ ss) = AreRecordsOf source.stream rows × HaveStreams sources ss

-- ---- keys and groups

all_keys_fit : (kind : Kind) (sources : List Source) (ss : List (List Record)) → AllByRecursion (λ (source : Source). source.stream.key ≡ kind) sources → HaveStreams sources ss → AllByRecursion (IsKeyOf kind) (flat_map (map key_of) ss)
all_keys_fit kind [] [] k h = tt
all_keys_fit kind [] (rows ∷ ss) k h = absurd h
all_keys_fit kind (source ∷ sources) [] k h = absurd h
all_keys_fit kind (source ∷ sources) (rows ∷ ss) k h =
    all_both (IsKeyOf kind) (map key_of rows) (flat_map (map key_of) ss)
    (all_mapped (IsRecordOf source.stream) (IsKeyOf kind) key_of rows (λ row r. record { good = r.key; same_kind = r.fits.key ∙ k.0 }) h.0)
    (all_keys_fit kind sources ss k.1 h.1)

keys_fit : (kind : Kind) (sources : List Source) (ss : List (List Record)) → AllByRecursion (λ (source : Source). source.stream.key ≡ kind) sources → HaveStreams sources ss → AllByRecursion (IsKeyOf kind) (keys ss)
keys_fit kind sources ss k h = all_distinct value_cmp_total (IsKeyOf kind) (flat_map (map key_of) ss) (all_keys_fit kind sources ss k h)

pub group_fits : (schema : Schema) (rows : List Record) (key : Value) → AreRecordsOf schema rows → AllByRecursion (AreFieldsOf schema.fields) (group rows key)
group_fits schema rows key a =
    all_sorted fields_cmp_total (AreFieldsOf schema.fields) (map fields_of (filter (has_key key) rows))
    (all_mapped (IsRecordOf schema) (AreFieldsOf schema.fields) fields_of (filter (has_key key) rows) (λ row r. record { good = r.fields; same_kinds = r.fits.fields }) (all_filtered (IsRecordOf schema) (has_key key) rows a))

groups_fit : (sources : List Source) (ss : List (List Record)) (key : Value) → HaveStreams sources ss → HaveGroups sources (map (λ rows. group rows key) ss)
groups_fit [] [] key h = tt
groups_fit [] (rows ∷ ss) key h = absurd h
groups_fit (source ∷ sources) [] key h = absurd h
groups_fit (source ∷ sources) (rows ∷ ss) key h = (group_fits source.stream rows key h.0, groups_fit sources ss key h.1)

module _ (m : Meaning) (shape : Shape) (tables : List (List Record)) (w : IsWellFormed shape) (f : FunctionsFit m shape) (t : TablesFit shape tables) where
  -- ---- what sources take

  table_taken : (j : ℕ) (from : Origin) → IsTable shape.tables from → (schema : Schema) × (taken shape j from ≡ Some schema)
  table_taken j State it = absurd it
  table_taken j Prev it = absurd it
  table_taken j (Table n None) it = item_there shape.tables n it
  table_taken j (Table n (Some only)) it = item_there shape.tables n it.0

  first_taken : (k : ℕ) (step : Step) → step_at shape (suc k) ≡ Some step → (schema : Schema) × (taken shape (suc k) (first_of State k) ≡ Some schema)
  first_taken zero step e = item_there shape.tables shape.start w.start
  first_taken (suc k) step e = let before = item_before shape.steps k step e in (before.0.out, ap (option_map (λ (step : Step). step.out)) before.1)

  -- each source takes records of some schema
  abbrev Takes : ℕ → Source → Type 0
  Takes j source = (schema : Schema) × (taken shape j source.from ≡ Some schema)

  all_take : (k : ℕ) (sources : List Source) → ReadFrom shape.tables (first_of State k) sources → (schema : Schema) × (taken shape (suc k) (first_of State k) ≡ Some schema) → AllByRecursion (Takes (suc k)) sources
  all_take k [] r first = tt
  all_take k (source ∷ others) r first =
      ((first.0, ap (taken shape (suc k)) r.0 ∙ first.1), all_weaker (λ (other : Source). IsTable shape.tables other.from) (Takes (suc k)) others (λ other it. table_taken (suc k) other.from it) r.1)

  step_takes : (k : ℕ) (step : Step) → step_at shape (suc k) ≡ Some step → AllByRecursion (Takes (suc k)) step.sources
  step_takes k step e = all_take k step.sources (read_at shape.tables State shape.steps k step w.steps e) (first_taken k step e)

  -- a state is of its schema
  abbrev StateFits : List Record → Type 0
  StateFits state = (schema : Schema) → state_schema shape ≡ Some schema → AreRecordsOf schema state

  -- what step k leaves is of its schema
  abbrev OutFits : ℕ → List Record → Type 0
  OutFits k before = (schema : Schema) → out_schema shape k ≡ Some schema → AreRecordsOf schema before

  rows_fit : (i k : ℕ) (state before : List Record) → StateFits state → OutFits k before → (from : Origin) (schema : Schema) → taken shape (suc k) from ≡ Some schema → AreRecordsOf schema (source_rows tables i state before from)
  rows_fit i k state before s b State schema e = s schema e
  rows_fit i k state before s b Prev schema e = b schema e
  rows_fit i k state before s b (Table n None) schema e = tables_fit shape.tables tables n schema t e
  rows_fit i k state before s b (Table n (Some only)) schema e =
      elim (i == only) as (λ yes. AreRecordsOf schema (if yes then table_at tables n else [])) [ true ↦ tables_fit shape.tables tables n schema t e | false ↦ tt ]

  -- ---- streams

  stream_fits : (i j s : ℕ) (source : Source) (schema : Schema) (rows : List Record) → i ≤ shape.rounds → source_at shape j s ≡ Some source → taken shape j source.from ≡ Some schema → AreRecordsOf schema rows → AreRecordsOf source.stream (stream (m.map i j s) rows)
  stream_fits i j s source schema rows l at e a = all_flat (IsRecordOf schema) (IsRecordOf source.stream) (m.map i j s) rows (λ row r. f.maps i j s source schema row l at e r) a

  streams_fit : (i k s : ℕ) (rows : Origin → List Record) (step : Step) (rest : List Source) → i ≤ shape.rounds → step_at shape (suc k) ≡ Some step → ((n : ℕ) → nth step.sources (s + n) ≡ slice_get rest n) → ((from : Origin) (schema : Schema) → taken shape (suc k) from ≡ Some schema → AreRecordsOf schema (rows from)) → AllByRecursion (Takes (suc k)) rest → HaveStreams rest (streams m i (suc k) rows s rest)
  streams_fit i k s rows step [] l e at r a = tt
  streams_fit i k s rows step (source ∷ rest) l e at r a =
      (stream_fits i (suc k) s source a.0.0 (rows source.from) l (source_of m shape tables (suc k) s step e ∙ nth_first step.sources source rest s at) a.0.1 (r source.from a.0.0 a.0.1), streams_fit i k (s + 1) rows step rest l e (nth_behind step.sources source rest s at) r a.1)

  -- ---- what steps leave

  part_fits : (i k p : ℕ) (step : Step) (ss : List (List Record)) → i ≤ shape.rounds → step_at shape (suc k) ≡ Some step → HaveStreams step.sources ss → AreRecordsOf step.out (part_out m i (suc k) ss p)
  part_fits i k p step ss l e h =
      let kind : Kind = key_kind step.sources in
      let chosen : Value → Bool = λ key. m.partition i (suc k) key == p in
      all_flat (IsKeyOf kind) (IsRecordOf step.out) (λ key. m.reduce i (suc k) key (map (λ rows. group rows key) ss)) (filter chosen (keys ss))
      (λ key q. f.reduces i (suc k) step key (map (λ rows. group rows key) ss) l e q (groups_fit step.sources ss key h))
      (all_filtered (IsKeyOf kind) chosen (keys ss) (keys_fit kind step.sources ss (f.keys (suc k) step e) h))

  parts_fit : (i k p n : ℕ) (step : Step) (ss : List (List Record)) → i ≤ shape.rounds → step_at shape (suc k) ≡ Some step → HaveStreams step.sources ss → AllByRecursion (AreRecordsOf step.out) (map (part_out m i (suc k) ss) (numbers_from p n))
  parts_fit i k p zero step ss l e h = tt
  parts_fit i k p (suc n) step ss l e h = (part_fits i k p step ss l e h, parts_fit i k (p + 1) n step ss l e h)

  one_after_another : (schema : Schema) (parts : List (List Record)) → AllByRecursion (AreRecordsOf schema) parts → AreRecordsOf schema (together parts)
  one_after_another schema parts a = all_flat (AreRecordsOf schema) (IsRecordOf schema) (λ rows. rows) parts (λ rows r. r) a

  by_fits : (i k : ℕ) (state before : List Record) → i ≤ shape.rounds → StateFits state → OutFits k before → (o : Option Step) → step_at shape (suc k) ≡ o → (schema : Schema) → option_map (λ (step : Step). step.out) o ≡ Some schema → AllByRecursion (AreRecordsOf schema) (parts_by m shape tables i (suc k) state before o)
  by_fits i k state before l s b None e schema is = absurd (no_step is)
  by_fits i k state before l s b (Some step) e schema is =
      let rows : Origin → List Record = source_rows tables i state before in
      let have : HaveStreams step.sources (streams m i (suc k) rows 1 step.sources) = streams_fit i k 1 rows step step.sources l e (nth_is step.sources) (rows_fit i k state before s b) (step_takes k step e) in
      subst (λ (schema : Schema). AllByRecursion (AreRecordsOf schema) (map (part_out m i (suc k) (streams m i (suc k) rows 1 step.sources)) (numbers_from 0 shape.parts))) (some_same is)
      (parts_fit i k 0 shape.parts step (streams m i (suc k) rows 1 step.sources) l e have)

  outs_fit : (i k : ℕ) (state : List Record) → i ≤ shape.rounds → StateFits state → (schema : Schema) → out_schema shape k ≡ Some schema → AllByRecursion (AreRecordsOf schema) (parts_from m shape tables i state k)
  outs_fit i zero state l s schema e = absurd (no_step e)
  outs_fit i (suc k) state l s schema e =
      by_fits i k state (together (parts_from m shape tables i state k)) l s (λ schema is. one_after_another schema (parts_from m shape tables i state k) (outs_fit i k state l s schema is)) (step_at shape (suc k)) refl schema e

  -- ---- rounds

  states_fit : (i : ℕ) (schema : Schema) → i ≤ shape.rounds → state_schema shape ≡ Some schema → AllByRecursion (AreRecordsOf schema) (last_out m shape tables i)
  states_fit zero schema l e = (tables_fit shape.tables tables shape.start schema t e, tt)
  states_fit (suc n) schema l e =
      outs_fit (suc n) (length shape.steps) (together (last_out m shape tables n)) l (λ schema is. one_after_another schema (last_out m shape tables n) (states_fit n schema (omega arith) is)) schema (f.last ∙ e)

  state_fits : (i : ℕ) → 1 ≤ i → i ≤ shape.rounds → StateFits (state_of m shape tables i)
  state_fits zero o l = absurd (omega arith)
  state_fits (suc n) o l = λ schema is. one_after_another schema (last_out m shape tables n) (states_fit n schema (omega arith) is)

  lists_fit : (i j s : ℕ) (source : Source) (schema : Schema) → 1 ≤ i → i ≤ shape.rounds → source_at shape j s ≡ Some source → taken shape j source.from ≡ Some schema → AreRecordsOf schema (source_list m shape tables i j s)
  lists_fit i zero s source schema o l at e = absurd (no_step at)
  lists_fit i (suc k) s source schema o l at e =
      let rows : Origin → List Record = source_rows tables i (state_of m shape tables i) (together (parts_of m shape tables i k)) in
      subst (λ (read : Option Source). AreRecordsOf schema (rows_read rows read)) (sym at)
      (rows_fit i k (state_of m shape tables i) (together (parts_of m shape tables i k)) (state_fits i o l) (λ schema is. one_after_another schema (parts_of m shape tables i k) (outs_fit i k (state_of m shape tables i) l (state_fits i o l) schema is)) source.from schema e)

  -- the source of a number takes records of some schema
  taken_at : (k s : ℕ) (source : Source) → source_at shape (suc k) s ≡ Some source → Takes (suc k) source
  taken_at k s source at = of_step (step_at shape (suc k)) refl at
    where
      of_nth : (sources : List Source) (n : ℕ) → AllByRecursion (Takes (suc k)) sources → nth sources n ≡ Some source → Takes (suc k) source
      of_nth sources zero a is = absurd (no_step is)
      of_nth [] (suc n) a is = absurd (no_step is)
      of_nth (first ∷ others) (suc zero) a is = subst (Takes (suc k)) (some_same is) a.0
      of_nth (first ∷ others) (suc (suc n)) a is = of_nth others (suc n) a.1 is

      of_step : (o : Option Step) → step_at shape (suc k) ≡ o → source_at shape (suc k) s ≡ Some source → Takes (suc k) source
      of_step None e at = let none : None ≡ Some source = ap (λ (o : Option Step). option_and_then (λ (step : Step). nth step.sources s) o) (sym e) ∙ at in absurd (no_step none)
      of_step (Some step) e at = of_nth step.sources s (step_takes k step e) (sym (source_of m shape tables (suc k) s step e) ∙ at)

  streams_of : (i j s : ℕ) (source : Source) → 1 ≤ i → i ≤ shape.rounds → source_at shape j s ≡ Some source → AreRecordsOf source.stream (stream_of m shape tables i j s)
  streams_of i zero s source o l at = absurd (no_step at)
  streams_of i (suc k) s source o l at =
      let takes = taken_at k s source at in
      stream_fits i (suc k) s source takes.0 (source_list m shape tables i (suc k) s) l at takes.1 (lists_fit i (suc k) s source takes.0 o l at takes.1)

pub of_their_schemas : ChainsAreOfTheirSchemas
of_their_schemas m shape tables w f t =
    record {
      lists = lists_fit m shape tables w f t;
      streams = streams_of m shape tables w f t;
      outs = λ i j schema o l e. outs_fit m shape tables w f t i j (state_of m shape tables i) l (state_fits m shape tables w f t i o l) schema e;
      states = states_fit m shape tables w f t;
    }
