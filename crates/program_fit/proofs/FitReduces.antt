-- The reduce of a step makes records of its output.
use Rattle.std.proofs.Common.{◌≡◌, ℕ, ◌≤◌, Bool, true, false, cond, List, [], ◌∷◌, Option, None, Some, length, map, refl, sym, subst}
use Rattle.std.specs.List.{AllByRecursion, flat_map, list_all}
use Rattle.std.specs.Ordering.{is_le}
use Rattle.std.specs.Cmp.Lexicographic.{slice_cmp}
use Rattle.std.proofs.lemmas.Bool.{and_parts, false≢true}
use Rattle.std.proofs.lemmas.Option.{none-some}
use Rattle.hal_base.specs.Order.{value_cmp}
use Rattle.hal_base.specs.declared.fields.Schema.{Schema}
use Rattle.hal_base.specs.declared.shape.Origin.{Origin}
use Rattle.hal_base.specs.declared.shape.Source.{Source}
use Rattle.hal_base.specs.declared.value.Kind.{Kind}
use Rattle.hal_base.specs.declared.value.Kind.TheVariants as kind
use Rattle.hal_base.specs.declared.value.Value.{Value}
use Rattle.hal_base.specs.declared.value.Value.TheVariants.{Int, Text}
use Rattle.hal_base.specs.Shapes.{ReadFrom, key_kind}
use Rattle.hal_base.specs.Values.{IsRecordOf}
use Rattle.plain_job.specs.Fit.{AreFieldsOf, AreRecordsOf, HaveGroups, IsGroupOf, IsKeyOf}
use Rattle.plain_job.specs.Predefined.{hop, keyed, least_of, lesser, made, next_of, row_of}
use Rattle.plain_job.proofs.Lists.{all_at, all_both, all_flat, all_mapped}
use Rattle.operations.proofs.Spellings.{saturated_fits}
use Rattle.function_language.specs.declared.tree.Function.{Function as Written}
use Rattle.function_language.specs.declared.tree.Function.TheVariants.{Map, Reduce, Distance, Partition}
use Rattle.function_language.specs.declared.tree.Stream.{Stream}
use Rattle.type_checker.specs.Kinds.{same_kind}
use Rattle.type_checker.specs.declared.uses.Use.{Use}
use Rattle.type_checker.specs.declared.uses.Use.TheVariants.{Same, Least, Every, Hop, Default, Function}
use Rattle.function_meaning.specs.Functions.{reduce_emits}
use Rattle.function_meaning.specs.Meanings.{reduce_used}
use Rattle.function_meaning.specs.Optional.{◌>>=◌, or_none}
use Rattle.function_meaning.specs.NeverStops.{AreGroupsOf, IsOfKinds, MakeARecord, NeverStops}
use Rattle.loop_program.specs.Limits.{expect, few, function_within, make_a_record, stream_line, stream_within}
use Rattle.loop_program.specs.Schemas.{are_streams, hop_from, hop_makes, is_stream, one_schema, own_reduce_makes, reduce_makes, same_kinds, same_schema, schema_of}
use Rattle.type_checker.proofs.Binding.{then_ok}
use Rattle.loop_program.proofs.KeptSchemas.{one_kind, one_list}
use Rattle.loop_program.proofs.KeptSchemas as kept
use Rattle.program_fit.proofs.FitMaps.{function_there, makes_record, right_or_none, rows_of_schema, some_same, tested}
use Rattle.type_checker.specs.Checked.{fine}

-- ---- all streams of one schema

-- the field lists of all groups
abbrev lists : List (List (List Value)) → List (List Value)
lists groups = flat_map (λ group. group) groups

all_lists : (schema : Schema) (sources : List Source) (groups : List (List (List Value))) → list_all (λ (source : Source). same_schema schema source.stream) sources ≡ true → HaveGroups sources groups → AllByRecursion (AreFieldsOf schema.fields) (lists groups)
all_lists schema [] [] alike have = tt
all_lists schema [] (group ∷ groups) alike have = absurd have
all_lists schema (source ∷ sources) [] alike have = absurd have
all_lists schema (source ∷ sources) (group ∷ groups) alike have =
    let parts = and_parts (same_schema schema source.stream) (list_all (λ (source : Source). same_schema schema source.stream) sources) alike in
    let same : schema ≡ source.stream = kept.one_schema schema source.stream parts.0 in
    all_both (AreFieldsOf schema.fields) group (lists groups)
    (subst (λ (s : Schema). IsGroupOf s.fields group) (sym same) have.0)
    (all_lists schema sources groups parts.1 have.1)

-- what is known of the streams that have one schema
record OneSchema (sources : List Source) (out : Schema) (groups : List (List (List Value))) : Type 0 where
  key : out.key ≡ key_kind sources
  fields : AllByRecursion (AreFieldsOf out.fields) (lists groups)

of_one_schema : (sources : List Source) (out : Schema) (groups : List (List (List Value))) → one_schema sources ≡ Some out → HaveGroups sources groups → OneSchema sources out groups
of_one_schema [] out groups e have = absurd (none-some _ e)
of_one_schema (first ∷ others) out [] e have = absurd have
of_one_schema (first ∷ others) out (group ∷ groups) e have =
    let alike = tested (list_all (λ (source : Source). same_schema first.stream source.stream) others) (Some first.stream) out e in
    subst (λ (schema : Schema). OneSchema (first ∷ others) schema (group ∷ groups)) (some_same alike.1)
    (record {
      key = refl;
      fields = all_both (AreFieldsOf first.stream.fields) group (lists groups) have.0 (all_lists first.stream others groups alike.0 have.1);
    })

lesser_has : (kinds : List Kind) (best fields : List Value) → AreFieldsOf kinds best → AreFieldsOf kinds fields → AreFieldsOf kinds (lesser (Some best) fields)
lesser_has kinds best fields b f = either (is_le (slice_cmp value_cmp best fields))
  where
    either : (t : Bool) → AreFieldsOf kinds (cond t best fields)
    either true = b
    either false = f

made_fits : (schema : Schema) (key : Value) (fields : List Value) → IsKeyOf schema.key key → AreFieldsOf schema.fields fields → IsRecordOf schema (made key fields)
made_fits schema key fields k f = record { key = k.good; fields = f.good; fits = record { key = k.same_kind; fields = f.same_kinds } }

-- the least of field lists of these kinds, if there is one, is of these kinds
least_has : (schema : Schema) (key : Value) (best : List Value) (others : List (List Value)) → IsKeyOf schema.key key → AreFieldsOf schema.fields best → AllByRecursion (AreFieldsOf schema.fields) others → AreRecordsOf schema (row_of key (least_of (Some best) others))
least_has schema key best [] k b all = (made_fits schema key best k b, tt)
least_has schema key best (fields ∷ others) k b all = least_has schema key (lesser (Some best) fields) others k (lesser_has schema.fields best fields b all.0) all.1

least_fits : (schema : Schema) (key : Value) (all : List (List Value)) → IsKeyOf schema.key key → AllByRecursion (AreFieldsOf schema.fields) all → AreRecordsOf schema (row_of key (least_of None all))
least_fits schema key [] k have = tt
least_fits schema key (fields ∷ others) k have = least_has schema key fields others k have.0 have.1

every_fits : (schema : Schema) (key : Value) (all : List (List Value)) → IsKeyOf schema.key key → AllByRecursion (AreFieldsOf schema.fields) all → AreRecordsOf schema (map (λ fields. made key fields) all)
every_fits schema key all k have = all_mapped (AreFieldsOf schema.fields) (IsRecordOf schema) (λ fields. made key fields) all (λ fields f. made_fits schema key fields k f) have

-- ---- hop

abbrev hop_schema : Kind → Schema
hop_schema target = record { key = target; fields = kind.Int ∷ [] }

list_longer : {x : Kind} {xs : List Kind} → [] ≡ x ∷ xs → ⊥
list_longer e = cc

two_longer : {x y z : Kind} {xs : List Kind} → x ∷ y ∷ xs ≡ z ∷ [] → ⊥
two_longer e = cc

one_first : {x y : Kind} → x ∷ [] ≡ y ∷ [] → x ≡ y
one_first e = cc

text_no_int : kind.Text ≡ kind.Int → ⊥
text_no_int e = cc

next_has : (d : List Value) → AreFieldsOf (kind.Int ∷ []) d → AreFieldsOf (kind.Int ∷ []) (next_of d)
next_has [] f = absurd (list_longer f.same_kinds)
next_has (Int n ∷ []) f = record { good = (saturated_fits _, tt); same_kinds = refl }
next_has (Text t ∷ []) f = absurd (text_no_int (one_first f.same_kinds))
next_has (Int n ∷ v ∷ vs) f = absurd (two_longer f.same_kinds)
next_has (Text t ∷ v ∷ vs) f = absurd (two_longer f.same_kinds)

keyed_has : (target : Kind) (t d : List Value) → AreFieldsOf (target ∷ []) t → AreFieldsOf (kind.Int ∷ []) d → AreRecordsOf (hop_schema target) (keyed t d)
keyed_has target [] d f h = absurd (list_longer f.same_kinds)
keyed_has target (v ∷ []) d f h = (record { key = f.good.0; fields = h.good; fits = record { key = one_first f.same_kinds; fields = h.same_kinds } }, tt)
keyed_has target (v ∷ w ∷ ws) d f h = absurd (two_longer f.same_kinds)

hops_have : (target : Kind) (distances targets : List (List Value)) → IsGroupOf (kind.Int ∷ []) distances → IsGroupOf (target ∷ []) targets → AreRecordsOf (hop_schema target) (flat_map (λ d. flat_map (λ t. keyed t (next_of d)) targets) distances)
hops_have target distances targets ds ts =
    all_flat (AreFieldsOf (kind.Int ∷ [])) (IsRecordOf (hop_schema target)) (λ d. flat_map (λ t. keyed t (next_of d)) targets) distances
    (λ d f. all_flat (AreFieldsOf (target ∷ [])) (IsRecordOf (hop_schema target)) (λ t. keyed t (next_of d)) targets (λ t g. keyed_has target t (next_of d) g (next_has d f)) ts) ds

hop_from_fits : (from to : List Kind) (out : Schema) (distances targets : List (List Value)) → hop_from from to ≡ Some out → IsGroupOf from distances → IsGroupOf to targets → AreRecordsOf out (flat_map (λ d. flat_map (λ t. keyed t (next_of d)) targets) distances)
hop_from_fits [] to out distances targets e ds ts = absurd (none-some _ e)
hop_from_fits (kind.Text ∷ []) to out distances targets e ds ts = absurd (none-some _ e)
hop_from_fits (kind.Text ∷ k ∷ ks) to out distances targets e ds ts = absurd (none-some _ e)
hop_from_fits (kind.Int ∷ k ∷ ks) to out distances targets e ds ts = absurd (none-some _ e)
hop_from_fits (kind.Int ∷ []) [] out distances targets e ds ts = absurd (none-some _ e)
hop_from_fits (kind.Int ∷ []) (a ∷ b ∷ ks) out distances targets e ds ts = absurd (none-some _ e)
hop_from_fits (kind.Int ∷ []) (target ∷ []) out distances targets e ds ts =
    subst (λ (schema : Schema). AreRecordsOf schema (flat_map (λ d. flat_map (λ t. keyed t (next_of d)) targets) distances)) (some_same e) (hops_have target distances targets ds ts)

hop_fits : (sources : List Source) (out : Schema) (key : Value) (groups : List (List (List Value))) → hop_makes sources ≡ Some out → HaveGroups sources groups → AreRecordsOf out (hop key groups)
hop_fits [] out key groups e have = absurd (none-some _ e)
hop_fits (a ∷ []) out key groups e have = absurd (none-some _ e)
hop_fits (a ∷ b ∷ c ∷ sources) out key groups e have = absurd (none-some _ e)
hop_fits (a ∷ b ∷ []) out key [] e have = absurd have
hop_fits (a ∷ b ∷ []) out key (ds ∷ []) e have = absurd have.1
hop_fits (a ∷ b ∷ []) out key (ds ∷ ts ∷ g ∷ groups) e have = absurd have.1.1
hop_fits (a ∷ b ∷ []) out key (ds ∷ ts ∷ []) e have = hop_from_fits a.stream.fields b.stream.fields out ds ts e have.0 have.1.0

-- ---- own reduces

groups_of_streams : (key : Kind) (streams : List Stream) (sources : List Source) (groups : List (List (List Value))) → are_streams key streams sources ≡ true → HaveGroups sources groups → AreGroupsOf streams groups
groups_of_streams key [] [] [] e have = tt
groups_of_streams key [] [] (group ∷ groups) e have = absurd have
groups_of_streams key [] (source ∷ sources) groups e have = absurd (false≢true e)
groups_of_streams key (stream ∷ streams) [] groups e have = absurd (false≢true e)
groups_of_streams key (stream ∷ streams) (source ∷ sources) [] e have = absurd have
groups_of_streams key (stream ∷ streams) (source ∷ sources) (group ∷ groups) e have =
    let parts = and_parts (is_stream key stream source.stream) (are_streams key streams sources) e in
    let kinds = and_parts (same_kind key source.stream.key) (same_kinds stream.kinds source.stream.fields) parts.0 in
    (subst (λ (ks : List Kind). IsGroupOf ks group) (sym (one_list stream.kinds source.stream.fields kinds.1)) have.0, groups_of_streams key streams sources groups parts.1 have.1)

key_of_streams : (key : Kind) (streams : List Stream) (first : Source) (others : List Source) → are_streams key streams (first ∷ others) ≡ true → key ≡ first.stream.key
key_of_streams key [] first others e = absurd (false≢true e)
key_of_streams key (stream ∷ streams) first others e =
    let parts = and_parts (is_stream key stream first.stream) (are_streams key streams others) e in
    one_kind key first.stream.key (and_parts (same_kind key first.stream.key) (same_kinds stream.kinds first.stream.fields) parts.0).0

own_key : (tables : List Schema) (from : Origin) (key : Kind) (streams : List Stream) (sources : List Source) → ReadFrom tables from sources → are_streams key streams sources ≡ true → key ≡ key_kind sources
own_key tables from key streams [] read e = absurd read
own_key tables from key streams (first ∷ others) read e = key_of_streams key streams first others e

own_reduce_fits : (f : Written) (tables : List Schema) (from : Origin) (sources : List Source) (out : Schema) (i : ℕ) (key : Value) (groups : List (List (List Value))) → i ≤ 10000 → ReadFrom tables from sources → NeverStops f → function_within f ≡ fine → own_reduce_makes f sources ≡ Some out → IsKeyOf (key_kind sources) key → HaveGroups sources groups → AreRecordsOf out (or_none (reduce_emits i f key groups))
own_reduce_fits (Map name params arrow output body) tables from sources out i key groups l read never within makes k have = absurd (none-some _ makes)
own_reduce_fits (Distance name param before after body) tables from sources out i key groups l read never within makes k have = absurd (none-some _ makes)
own_reduce_fits (Partition name param body) tables from sources out i key groups l read never within makes k have = absurd (none-some _ makes)
own_reduce_fits (Reduce name param streams arrow output body) tables from sources out i key groups l read never within makes k have =
    let took = tested (are_streams param.kind streams sources) (schema_of output.kinds) out makes in
    let limits = then_ok (few stream_line stream_within 8 streams) (expect (make_a_record (length output.kinds)) arrow) tt within in
    let small : MakeARecord output.kinds = makes_record (length output.kinds) arrow tt limits.2 in
    let same : param.kind ≡ key_kind sources = own_key tables from param.kind streams sources read took.0 in
    let right = never small i key groups l (subst (λ (kind : Kind). IsKeyOf kind key) (sym same) k) (groups_of_streams param.kind streams sources groups took.0 have) in
    rows_of_schema output.kinds out _ took.1 (right_or_none (IsOfKinds output.kinds) (reduce_emits i (Reduce name param streams arrow output body) key groups) right)

-- what the reduce that a place uses makes is of the step's output
pub reduce_fits : (functions : List Written) (used : Use) (tables : List Schema) (from : Origin) (sources : List Source) (out : Schema) (i : ℕ) (key : Value) (groups : List (List (List Value))) → i ≤ 10000 → AllByRecursion NeverStops functions → AllByRecursion (λ (f : Written). function_within f ≡ fine) functions → ReadFrom tables from sources → reduce_makes functions used sources ≡ Some out → IsKeyOf (key_kind sources) key → HaveGroups sources groups → AreRecordsOf out (or_none (reduce_used functions i key groups used))
reduce_fits functions Same tables from sources out i key groups l never within read makes k have = absurd (none-some _ makes)
reduce_fits functions Default tables from sources out i key groups l never within read makes k have = absurd (none-some _ makes)
reduce_fits functions Least tables from sources out i key groups l never within read makes k have =
    let one = of_one_schema sources out groups makes have in
    least_fits out key (lists groups) (subst (λ (kind : Kind). IsKeyOf kind key) (sym one.key) k) one.fields
reduce_fits functions Every tables from sources out i key groups l never within read makes k have =
    let one = of_one_schema sources out groups makes have in
    every_fits out key (lists groups) (subst (λ (kind : Kind). IsKeyOf kind key) (sym one.key) k) one.fields
reduce_fits functions Hop tables from sources out i key groups l never within read makes k have = hop_fits sources out key groups makes have
reduce_fits functions (Function n) tables from sources out i key groups l never within read makes k have =
    let there = function_there functions n (λ function. own_reduce_makes function sources) out makes in
    subst (λ (o : Option Written). AreRecordsOf out (or_none (o >>= (λ function. reduce_emits i function key groups)))) (sym there.1)
    (own_reduce_fits there.0 tables from sources out i key groups l read (all_at NeverStops functions n there.0 never there.1) (all_at (λ (f : Written). function_within f ≡ fine) functions n there.0 within there.1) there.2 k have)
