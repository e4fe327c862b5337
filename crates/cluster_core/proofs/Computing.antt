-- What an attempt read is such as its task computes from.
use Rattle.std.proofs.Common.{◌≡◌, inl, inr, ◌<◌, ◌≤◌, ◌+◌, ◌-◌, ◌==◌, ℕ, zero, suc, Bool, true, false, cond, not, List, [], ◌∷◌, Option, None, Some, length, slice_get, map, refl, sym, ap, ◌∙◌, subst, arith}
use Rattle.std.specs.Option.{option_and_then, option_map}
use Rattle.std.specs.List.{AllByRecursion, filter, flat_map, range_with_len}
use Rattle.hal_base.specs.declared.fields.Schema.{Schema}
use Rattle.hal_base.specs.declared.record.Record.{Record}
use Rattle.hal_base.specs.declared.shape.Origin.{Origin}
use Rattle.hal_base.specs.declared.shape.Origin.TheVariants.{State, Prev, Table}
use Rattle.hal_base.specs.declared.shape.Shape.{Shape}
use Rattle.hal_base.specs.declared.shape.Source.{Source}
use Rattle.hal_base.specs.declared.shape.Step.{Step}
use Rattle.hal_base.specs.Meaning.{Meaning}
use Rattle.hal_base.specs.Order.{record_cmp}
use Rattle.hal_base.specs.Shapes.{IsTable, IsWellFormed, ReadFrom, nth, out_schema, source_at, step_at, taken}
use Rattle.hal_base.specs.Sorted.{Ascending}
use Rattle.loop_scheduler.specs.Reads.{files_of}
use Rattle.node_names.specs.declared.name.Name.{Name}
use Rattle.node_names.specs.declared.name.Name.TheVariants.{Blk, Mic, Out, Ric, Roc, Spill}
use Rattle.node_names.specs.declared.name.NameKind.{NameKind}
use Rattle.node_names.specs.declared.name.NameKind.TheVariants as kind
use Rattle.node_names.specs.Names.{kind_of}
use Rattle.node_names.specs.declared.task.Task.{Task}
use Rattle.node_names.specs.declared.task.Task.TheVariants.{Map, Reduce, Test}
use Rattle.partition_shuffle.specs.SpillTexts.{FitSection}
use Rattle.plain_job.proofs.Schemas.{first_of, item_there, read_at}
use Rattle.plain_job.specs.Fit.{AreRecordsOf, FunctionsFit}
use Rattle.replica_table.specs.Copies.{up_holders}
use Rattle.run_model.specs.Lists.{IsIn}
use Rattle.run_model.specs.Needs.{Input, reduce_input}
use Rattle.run_model.specs.Reading.{Try, cache_of_block, other_tries, own_tries, own_try, tries_for, try_at}
use Rattle.run_model.specs.State.{Copy, PlainCluster, bare, holds}
use Rattle.run_model.specs.Tasks.{IsTask, count_in, is_cached, last, source_count, split_in, split_of, splits}
use Rattle.task_outputs.specs.Given.{AreSections, HaveSections}
use Rattle.task_values.proofs.Reading.{IsFor, in_either}
use Rattle.valid_copies.specs.Files.{AreRead, Desk, FileRead, IsRead, try_of}
use Rattle.valid_copies.specs.Inputs.{EachRead, rows_in}
use Rattle.valid_copies.specs.Readings.{IsListOf, IsTextIn, OfSchema, StandsFor}
use Rattle.valid_copies.specs.Texts.{schema_of}
use Rattle.cluster_core.specs.Outputs.{CanCompute, IsSplit}

abbrev pub files_in : Input → List Name
files_in it = it.files

abbrev rows_of : FileRead → List Record
rows_of it = it.rows

-- ---- which file is read for a need

own_try_is : (copies : List Copy) (own : ℕ) (name : Name) (it : Try) → IsIn it (own_try copies own name) → it.name ≡ name
own_try_is copies own name it h =
    elim (holds copies own name) as (λ b. IsIn it (cond b (try_at name own ∷ []) []) → it.name ≡ name) [
      | true ↦ λ k. elim k [ inl e ↦ ap (λ (t : Try). t.name) e | inr l ↦ absurd l ]
      | false ↦ λ k. absurd k
    ] h

own_tries_are : (copies : List Copy) (own : ℕ) (names : List Name) (it : Try) → IsIn it (flat_map (own_try copies own) names) → IsIn it.name names
own_tries_are copies own [] it h = h
own_tries_are copies own (name ∷ names) it h =
    elim (in_either it (own_try copies own name) (flat_map (own_try copies own) names) h) [ inl k ↦ inl (own_try_is copies own name it k) | inr k ↦ inr (own_tries_are copies own names it k) ]

others_are : (name : Name) (ns : List ℕ) (it : Try) → IsIn it (map (try_at name) ns) → it.name ≡ name
others_are name [] it h = absurd h
others_are name (n ∷ ns) it h = elim h [ inl e ↦ ap (λ (t : Try). t.name) e | inr k ↦ others_are name ns it k ]

tries_are : (c : PlainCluster) (own : ℕ) (name : Name) (it : Try) → IsIn it (tries_for c own name) → IsFor name it.name
tries_are c own name it h =
    elim (in_either it (own_tries c.copies own name) (other_tries c own name) h) [
      | inl k ↦ own_tries_are c.copies own (name ∷ cache_of_block name) it k
      | inr k ↦ inl (others_are name (filter (λ n. not (n == own)) (up_holders name c.up c.copies)) it k)
    ]

first_in : (tries : List Try) (it : Try) → slice_get tries 0 ≡ Some it → IsIn it tries
first_in [] it e = cc
first_in (t ∷ tries) it e = inl (same e)
  where
    same : Some t ≡ Some it → it ≡ t
    same e = cc

-- some cluster that the desk sees
abbrev seen_by : Desk → PlainCluster
seen_by desk = record { round = 0; up = desk.table.up; marked = []; copies = bare desk.table.copies; running = []; known = []; failures = []; events = []; journal = [] }

-- it is the file, or of a block its cache
pub read_for : (desk : Desk) (name : Name) (it : FileRead) → IsRead desk name it → IsFor name it.file.name
read_for desk name it is = tries_are (seen_by desk) desk.own name (try_of it.file) (first_in (tries_for (seen_by desk) desk.own name) (try_of it.file) (is.first (seen_by desk) (record { copies = refl; up = refl })))

-- ---- what its records are

same_schema : (shape : Shape) (name got : Name) → IsFor name got → schema_of shape got ≡ schema_of shape name
same_schema shape name got (inl e) = ap (schema_of shape) e
same_schema shape (Blk t b) got (inr (inl e)) = ap (schema_of shape) e
same_schema shape (Blk t b) got (inr (inr k)) = absurd k
same_schema shape (Spill i j s q) got (inr k) = absurd k
same_schema shape (Out i j p) got (inr k) = absurd k
same_schema shape (Ric j s p) got (inr k) = absurd k
same_schema shape (Mic t b) got (inr k) = absurd k
same_schema shape (Roc i p) got (inr k) = absurd k

section_at : (schema : Schema) (parts : List (List Record)) (part : ℕ) (rows : List Record) → AllByRecursion (FitSection schema) parts → slice_get parts part ≡ Some rows → FitSection schema rows
section_at schema [] part rows a e = cc
section_at schema (x ∷ parts) zero rows a e = subst (FitSection schema) (same e) a.0
  where
    same : Some x ≡ Some rows → x ≡ rows
    same e = cc
section_at schema (x ∷ parts) (suc part) rows a e = section_at schema parts part rows a.1 e

text_fits : (k : NameKind) (schema : Schema) (bytes : List ℕ) (part : ℕ) (rows : List Record) → IsTextIn k schema bytes part rows → AreRecordsOf schema rows
text_fits kind.Blk schema bytes part rows h = h.records.each
text_fits kind.Spill schema bytes part rows h = (section_at schema h.parts part rows h.spill.each h.section).fits.each
text_fits kind.Out schema bytes part rows h = h.records.each
text_fits kind.Ric schema bytes part rows h = h.records.each
text_fits kind.Mic schema bytes part rows h = h.records.each
text_fits kind.Roc schema bytes part rows h = h.records.each

read_fits : (desk : Desk) (name : Name) (it : FileRead) (schema : Schema) → IsRead desk name it → schema_of desk.shape name ≡ Some schema → AreRecordsOf schema it.rows
read_fits desk name it schema is e = by_text is.rows
  where
    there : schema_of desk.shape it.file.name ≡ Some schema
    there = same_schema desk.shape name it.file.name (read_for desk name it is) ∙ e

    by_text : StandsFor desk.shape it.file.name it.bytes desk.part it.rows → AreRecordsOf schema it.rows
    by_text (inl h) = text_fits (kind_of it.file.name) schema it.bytes desk.part it.rows (subst (OfSchema (λ s. IsTextIn (kind_of it.file.name) s it.bytes desk.part it.rows)) there h)
    by_text (inr h) = subst (AreRecordsOf schema) (sym h.1) tt

-- a section is in order
read_in_order : (desk : Desk) (i j s q : ℕ) (it : FileRead) (schema : Schema) → IsRead desk (Spill i j s q) it → schema_of desk.shape (Spill i j s q) ≡ Some schema → Ascending record_cmp it.rows
read_in_order desk i j s q it schema is e = by_text is.rows
  where
    name_is : it.file.name ≡ Spill i j s q
    name_is = elim (read_for desk (Spill i j s q) it is) [ inl e ↦ e | inr k ↦ absurd k ]

    by_text : StandsFor desk.shape it.file.name it.bytes desk.part it.rows → Ascending record_cmp it.rows
    by_text (inl h) =
        let text : OfSchema (λ s. IsTextIn kind.Spill s it.bytes desk.part it.rows) (schema_of desk.shape (Spill i j s q)) = subst (λ name. IsListOf desk.shape name it.bytes desk.part it.rows) name_is h in
        let section = subst (OfSchema (λ s. IsTextIn kind.Spill s it.bytes desk.part it.rows)) e text in
        (section_at schema section.parts desk.part it.rows section.spill.each section.section).in_order
    by_text (inr h) = subst (Ascending record_cmp) (sym h.1) tt

-- ---- reduces

spills_read : (desk : Desk) (i j s : ℕ) (schema : Schema) (qs : List ℕ) (reads : List FileRead) → schema_of desk.shape (Spill i j s 0) ≡ Some schema → AreRead desk (map (Spill i j s) qs) reads
    → AllByRecursion (AreRecordsOf schema) (map rows_of reads) × AllByRecursion (Ascending record_cmp) (map rows_of reads)
spills_read desk i j s schema [] [] e a = (tt, tt)
spills_read desk i j s schema [] (it ∷ reads) e a = absurd a
spills_read desk i j s schema (q ∷ qs) [] e a = absurd a
spills_read desk i j s schema (q ∷ qs) (it ∷ reads) e a =
    let more = spills_read desk i j s schema qs reads e a.1 in
    ((read_fits desk (Spill i j s q) it schema a.0 e, more.0), (read_in_order desk i j s q it schema a.0 e, more.1))

input_read : (desk : Desk) (i j p s : ℕ) (source : Source) (cached : Bool) (reads : List FileRead) → source_at desk.shape j s ≡ Some source → AreRead desk (reduce_input desk.shape i j p s cached).files reads
    → AllByRecursion (AreRecordsOf source.stream) (map rows_of reads) × AllByRecursion (Ascending record_cmp) (map rows_of reads)
input_read desk i j p s source true reads e a = spills_read desk 1 j s source.stream (splits desk.shape 1 j s) reads (ap (option_map (λ (x : Source). x.stream)) e) a
input_read desk i j p s source false reads e a = spills_read desk i j s source.stream (splits desk.shape i j s) reads (ap (option_map (λ (x : Source). x.stream)) e) a

sources_read : (desk : Desk) (i j p k : ℕ) (sources : List Source) (reads : List (List FileRead))
    → ((n : ℕ) (source : Source) → slice_get sources n ≡ Some source → source_at desk.shape j (k + n) ≡ Some source)
    → EachRead desk (map files_in (map (λ s. reduce_input desk.shape i j p s (is_cached (source_at desk.shape j s))) (range_with_len k (length sources)))) reads
    → HaveSections sources (rows_in reads) × AllByRecursion (AllByRecursion (Ascending record_cmp)) (rows_in reads)
sources_read desk i j p k [] [] at a = (tt, tt)
sources_read desk i j p k [] (r ∷ reads) at a = absurd a
sources_read desk i j p k (source ∷ sources) [] at a = absurd a
sources_read desk i j p k (source ∷ sources) (r ∷ reads) at a =
    let one = input_read desk i j p k source (is_cached (source_at desk.shape j k)) r (subst (λ m. source_at desk.shape j m ≡ Some source) none (at 0 source refl)) a.0 in
    let more = sources_read desk i j p (k + 1) sources reads (λ n x e. subst (λ m. source_at desk.shape j m ≡ Some x) (shift n) (at (suc n) x e)) a.1 in
    ((one.0, more.0), (one.1, more.1))
  where
    none : k + 0 ≡ k
    none = omega arith

    shift : (n : ℕ) → k + suc n ≡ k + 1 + n
    shift n = omega arith

step_there : (shape : Shape) (j : ℕ) → 1 ≤ j → j ≤ last shape → (step : Step) × (step_at shape j ≡ Some step)
step_there shape zero l h = absurd (omega arith)
step_there shape (suc k) l h = item_there shape.steps k (omega (arith, h))

source_in_step : (shape : Shape) (j : ℕ) (step : Step) → step_at shape j ≡ Some step → (n : ℕ) (source : Source) → slice_get step.sources n ≡ Some source → source_at shape j (1 + n) ≡ Some source
source_in_step shape j step e n source h = ap (option_and_then (λ (x : Step). nth x.sources (1 + n))) e ∙ ap (nth step.sources) one ∙ h
  where
    one : 1 + n ≡ suc n
    one = omega arith

reduce_reads : (desk : Desk) (i j p : ℕ) → IsTask desk.shape (Reduce i j p) → (reads : List (List FileRead)) → EachRead desk (files_of desk.shape (Reduce i j p)) reads → AreSections desk.shape j (rows_in reads)
reduce_reads desk i j p t reads a =
    let step = step_there desk.shape j t.1 t.2 in
    let both = sources_read desk i j p 1 step.0.sources reads (source_in_step desk.shape j step.0 step.1)
    (subst (λ n. EachRead desk (map files_in (map (λ s. reduce_input desk.shape i j p s (is_cached (source_at desk.shape j s))) (range_with_len 1 n))) reads) (ap source_count step.1) a)
    in
    record { step = step.0; is_there = step.1; each = both.0; in_order = both.1 }

-- ---- maps

pub some_source : (shape : Shape) (i : ℕ) (o : Option Source) (q : ℕ) → q < count_in shape i o → (source : Source) × (o ≡ Some source)
some_source shape i None q l = absurd (omega (arith, l))
some_source shape i (Some source) q l = (source, refl)

table_taken : (shape : Shape) (j : ℕ) (from : Origin) → IsTable shape.tables from → (schema : Schema) × (taken shape j from ≡ Some schema)
table_taken shape j State it = absurd it
table_taken shape j Prev it = absurd it
table_taken shape j (Table n None) it = item_there shape.tables n it
table_taken shape j (Table n (Some only)) it = item_there shape.tables n it.0

before_there : {A : Type 0} (xs : List A) (n : ℕ) (x : A) → slice_get xs (suc n) ≡ Some x → (y : A) × (slice_get xs n ≡ Some y)
before_there [] n x e = cc
before_there (y ∷ ys) zero x e = (y, refl)
before_there (y ∷ ys) (suc n) x e = before_there ys n x e

first_taken : (shape : Shape) → IsWellFormed shape → (k : ℕ) (step : Step) → step_at shape (suc k) ≡ Some step → (schema : Schema) × (taken shape (suc k) (first_of State k) ≡ Some schema)
first_taken shape w zero step e = item_there shape.tables shape.start w.start
first_taken shape w (suc k) step e = let before = before_there shape.steps k step e in (before.0.out, ap (option_map (λ (step : Step). step.out)) before.1)

other_taken : (shape : Shape) (j : ℕ) (others : List Source) (n : ℕ) (source : Source) → AllByRecursion (λ (other : Source). IsTable shape.tables other.from) others → slice_get others n ≡ Some source → (schema : Schema) × (taken shape j source.from ≡ Some schema)
other_taken shape j [] n source a e = cc
other_taken shape j (x ∷ others) zero source a e = subst (λ (x : Source). (schema : Schema) × (taken shape j x.from ≡ Some schema)) (same e) (table_taken shape j x.from a.0)
  where
    same : Some x ≡ Some source → x ≡ source
    same e = cc
other_taken shape j (x ∷ others) (suc n) source a e = other_taken shape j others n source a.1 e

one_taken : (shape : Shape) (k : ℕ) (sources : List Source) (n : ℕ) (source : Source) → ReadFrom shape.tables (first_of State k) sources → (schema : Schema) × (taken shape (suc k) (first_of State k) ≡ Some schema) → slice_get sources n ≡ Some source
    → (schema : Schema) × (taken shape (suc k) source.from ≡ Some schema)
one_taken shape k [] n source r first e = absurd r
one_taken shape k (x ∷ others) zero source r first e = (first.0, ap (λ (s : Source). taken shape (suc k) s.from) (same e) ∙ ap (taken shape (suc k)) r.0 ∙ first.1)
  where
    same : Some x ≡ Some source → source ≡ x
    same e = cc
one_taken shape k (x ∷ others) (suc n) source r first e = other_taken shape (suc k) others n source r.1 e

source_takes : (shape : Shape) → IsWellFormed shape → (j s : ℕ) (source : Source) → source_at shape j s ≡ Some source → (schema : Schema) × (taken shape j source.from ≡ Some schema)
source_takes shape w zero s source e = cc
source_takes shape w (suc k) zero source e = absurd (never (slice_get shape.steps k) e)
  where
    never : (o : Option Step) → option_and_then (λ (step : Step). nth step.sources 0) o ≡ Some source → ⊥
    never None e = cc
    never (Some step) e = cc
source_takes shape w (suc k) (suc n) source e = go (slice_get shape.steps k) refl
  where
    go : (o : Option Step) → slice_get shape.steps k ≡ o → (schema : Schema) × (taken shape (suc k) source.from ≡ Some schema)
    go None there = absurd (never there)
      where
        never : slice_get shape.steps k ≡ None → ⊥
        never there = let h : None ≡ Some source = ap (option_and_then (λ (step : Step). nth step.sources (suc n))) (sym there) ∙ e in cc
    go (Some step) there = one_taken shape k step.sources n source (read_at shape.tables State shape.steps k step w.steps there) (first_taken shape w k step there) (ap (option_and_then (λ (step : Step). nth step.sources (suc n))) (sym there) ∙ e)

-- a split is of the schema that its source takes
split_schema : (m : Meaning) (shape : Shape) → FunctionsFit m shape → (i j : ℕ) (from : Origin) (q : ℕ) (schema : Schema) → taken shape j from ≡ Some schema → schema_of shape (split_of shape i j from q) ≡ Some schema
split_schema m shape f i j State q schema e = elim (i == 1) as (λ b. schema_of shape (cond b (Blk shape.start q) (Out (i - 1) (last shape) q)) ≡ Some schema) [ true ↦ e | false ↦ f.last ∙ e ]
split_schema m shape f i zero Prev q schema e = cc
split_schema m shape f i (suc k) Prev q schema e = ap (out_schema shape) less ∙ e
  where
    less : suc k - 1 ≡ k
    less = omega arith
split_schema m shape f i j (Table t only) q schema e = e

map_reads : (m : Meaning) (desk : Desk) → IsWellFormed desk.shape → FunctionsFit m desk.shape → (i j s q : ℕ) (source : Source) → source_at desk.shape j s ≡ Some source → (reads : List (List FileRead))
    → EachRead desk ((split_of desk.shape i j source.from q ∷ []) ∷ []) reads → IsSplit desk.shape j s (rows_in reads)
map_reads m desk w f i j s q source there [] a = absurd a
map_reads m desk w f i j s q source there ([] ∷ reads) a = absurd a.0
map_reads m desk w f i j s q source there ((it ∷ []) ∷ []) a =
    let takes = source_takes desk.shape w j s source there in
    record {
      rows = it.rows;
      alone = refl;
      taken = record {
        source = source;
        schema = takes.0;
        is_there = there;
        takes = takes.1;
        each = read_fits desk (split_of desk.shape i j source.from q) it takes.0 a.0.0 (split_schema m desk.shape f i j source.from q takes.0 takes.1);
      };
    }
map_reads m desk w f i j s q source there ((it ∷ []) ∷ r ∷ reads) a = absurd a.1
map_reads m desk w f i j s q source there ((it ∷ x ∷ more) ∷ reads) a = absurd a.0.1

-- ---- tasks

pub can_compute : (m : Meaning) (desk : Desk) → IsWellFormed desk.shape → FunctionsFit m desk.shape → (task : Task) → IsTask desk.shape task → (reads : List (List FileRead)) → EachRead desk (files_of desk.shape task) reads → CanCompute desk.shape task (rows_in reads)
can_compute m desk w f (Map i j s q) t reads a =
    let there = some_source desk.shape i (source_at desk.shape j s) q t.5 in
    map_reads m desk w f i j s q there.0 there.1 reads (subst (λ o. EachRead desk (split_in desk.shape i j o q ∷ []) reads) there.1 a)
can_compute m desk w f (Reduce i j p) t reads a = reduce_reads desk i j p t reads a
can_compute m desk w f (Test i p) t reads a = tt
