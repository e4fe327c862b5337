-- The map of a source makes records of its stream.
use Rattle.std.proofs.Common.{◌≡◌, ℕ, ◌≤◌, Bool, true, false, cond, List, [], ◌∷◌, Option, None, Some, Ok, length, map, nat_le, refl, sym, ap, subst, slice_get}
use Rattle.std.specs.List.{AllByRecursion}
use Rattle.std.specs.Option.{option_and_then}
use Rattle.std.proofs.lemmas.Bool.{and_parts, leb-true}
use Rattle.std.proofs.lemmas.Option.{none-some}
use Rattle.hal_base.specs.declared.fields.Schema.{Schema}
use Rattle.hal_base.specs.declared.record.Record.{Record}
use Rattle.hal_base.specs.declared.value.Kind.{Kind}
use Rattle.hal_base.specs.Values.{IsRecordOf, schema_kinds}
use Rattle.plain_job.specs.Fit.{AreRecordsOf}
use Rattle.plain_job.proofs.Lists.{all_at, all_weaker}
use Rattle.function_language.specs.declared.tree.Function.{Function as Written}
use Rattle.function_language.specs.declared.tree.Function.TheVariants.{Map, Reduce, Distance, Partition}
use Rattle.type_checker.specs.declared.uses.Use.{Use}
use Rattle.type_checker.specs.declared.uses.Use.TheVariants.{Same, Least, Every, Hop, Default, Function}
use Rattle.function_meaning.specs.Functions.{map_emits}
use Rattle.function_meaning.specs.Meanings.{map_used}
use Rattle.function_meaning.specs.Optional.{◌>>=◌, or_none}
use Rattle.function_meaning.specs.NeverStops.{GoesRight, IsOfKinds, MakeARecord, NeverStops}
use Rattle.loop_program.specs.Limits.{expect, function_within, make_a_record}
use Rattle.loop_program.specs.Schemas.{are_params, kind_taken, map_makes, own_map_makes, schema_of}
use Rattle.type_checker.proofs.Binding.{then_ok}
use Rattle.loop_program.proofs.Chains.{expected}
use Rattle.loop_program.proofs.KeptSchemas.{one_list}
use Rattle.type_checker.specs.Checked.{fine}

-- ---- what is missing

pub some_same : {A : Type 0} {a b : A} → Some a ≡ Some b → a ≡ b
some_same e = cc

-- a test before something
pub tested : {A : Type 0} (test : Bool) (o : Option A) (a : A) → cond test o None ≡ Some a → (test ≡ true) × (o ≡ Some a)
tested true o a e = (refl, e)
tested false o a e = absurd (none-some _ e)

-- what goes right is there, or nothing is
pub right_or_none : (P : Record → Type 0) (o : Option (List Record)) → GoesRight (AllByRecursion P) o → AllByRecursion P (or_none o)
right_or_none P None r = absurd r
right_or_none P (Some rows) r = r

-- ---- schemas

abbrev schema_is : Kind → List Kind → Schema
schema_is key fields = record { key = key; fields = fields }

pub schema_parts : (key : Kind) (fields : List Kind) (schema : Schema) → schema_is key fields ≡ schema → (schema.key ≡ key) × (schema.fields ≡ fields)
schema_parts key fields schema e = (ap (λ (s : Schema). s.key) (sym e), ap (λ (s : Schema). s.fields) (sym e))

-- kinds that make a schema are those of its records
pub kinds_same : (kinds : List Kind) (schema : Schema) → schema_of kinds ≡ Some schema → kinds ≡ schema_kinds schema
kinds_same [] schema e = absurd (none-some _ e)
kinds_same (key ∷ fields) schema e =
    let made = tested (nat_le (length fields) 7) (Some (schema_is key fields)) schema e in
    ap schema_kinds (some_same made.1)

first_same : {A : Type 0} {x y : A} {xs ys : List A} → x ∷ xs ≡ y ∷ ys → x ≡ y
first_same e = cc

others_same : {A : Type 0} {x y : A} {xs ys : List A} → x ∷ xs ≡ y ∷ ys → xs ≡ ys
others_same e = cc

-- a record of these kinds is one of the schema
of_schema : (schema : Schema) (row : Record) → IsOfKinds (schema_kinds schema) row → IsRecordOf schema row
of_schema schema row k = record { key = k.good.0; fields = k.good.1; fits = record { key = first_same k.same_kinds; fields = others_same k.same_kinds } }

of_kinds : (schema : Schema) (row : Record) → IsRecordOf schema row → IsOfKinds (schema_kinds schema) row
of_kinds schema row f =
    let key = f.fits.key in
    let fields = f.fits.fields in
    record { good = (f.key, f.fields); same_kinds = cc }

pub rows_of_schema : (kinds : List Kind) (schema : Schema) (rows : List Record) → schema_of kinds ≡ Some schema → AllByRecursion (IsOfKinds kinds) rows → AreRecordsOf schema rows
rows_of_schema kinds schema rows e all =
    all_weaker (IsOfKinds kinds) (IsRecordOf schema) rows
    (λ row k. of_schema schema row (subst (λ (ks : List Kind). IsOfKinds ks row) (kinds_same kinds schema e) k)) all

-- ---- limits

pub makes_record : (n : ℕ) (line : ℕ) (u : Unit {0}) → expect (make_a_record n) line ≡ Ok u → (1 ≤ n) × (n ≤ 8)
makes_record n line u e =
    let parts = and_parts (nat_le 1 n) (nat_le n 8) (expected (make_a_record n) line u e) in
    (leb-true 1 n parts.0, leb-true n 8 parts.1)

-- ---- maps

own_map_fits : (f : Written) (schema stream : Schema) (i : ℕ) (row : Record) → i ≤ 10000 → NeverStops f → function_within f ≡ fine → own_map_makes f schema ≡ Some stream → IsRecordOf schema row → AreRecordsOf stream (or_none (map_emits i f row))
own_map_fits (Map name params arrow out body) schema stream i row l never within makes fits =
    let made = tested (are_params params schema) (schema_of out.kinds) stream makes in
    let taken : map kind_taken params ≡ schema_kinds schema = one_list (map kind_taken params) (schema_kinds schema) made.0 in
    let limits = then_ok (expect (make_a_record (length params)) name.line) (expect (make_a_record (length out.kinds)) arrow) tt within in
    let few : MakeARecord out.kinds = makes_record (length out.kinds) arrow tt limits.2 in
    let kinds : IsOfKinds (map kind_taken params) row = subst (λ (ks : List Kind). IsOfKinds ks row) (sym taken) (of_kinds schema row fits) in
    rows_of_schema out.kinds stream _ made.1 (right_or_none (IsOfKinds out.kinds) (map_emits i (Map name params arrow out body) row) (never few i row l kinds))
own_map_fits (Reduce name key streams arrow out body) schema stream i row l never within makes fits = absurd (none-some _ makes)
own_map_fits (Distance name key before after body) schema stream i row l never within makes fits = absurd (none-some _ makes)
own_map_fits (Partition name key body) schema stream i row l never within makes fits = absurd (none-some _ makes)

-- the function of a number, where it makes something
pub function_there : {A : Type 0} (functions : List Written) (n : ℕ) (f : Written → Option A) (a : A) → option_and_then f (slice_get functions n) ≡ Some a → (function : Written) × (slice_get functions n ≡ Some function) × (f function ≡ Some a)
function_there functions n f a e = there (slice_get functions n) refl e
  where
    there : (o : Option Written) → slice_get functions n ≡ o → option_and_then f o ≡ Some a → (function : Written) × (slice_get functions n ≡ Some function) × (f function ≡ Some a)
    there None g e = absurd (none-some _ e)
    there (Some function) g e = (function, g, e)

-- what the map that a place uses makes is of its stream
pub map_fits : (functions : List Written) (used : Use) (schema stream : Schema) (i : ℕ) (row : Record) → i ≤ 10000 → AllByRecursion NeverStops functions → AllByRecursion (λ (f : Written). function_within f ≡ fine) functions → map_makes functions used schema ≡ Some stream → IsRecordOf schema row → AreRecordsOf stream (or_none (map_used functions i row used))
map_fits functions Same schema stream i row l never within makes fits = (subst (λ (s : Schema). IsRecordOf s row) (some_same makes) fits, tt)
map_fits functions Least schema stream i row l never within makes fits = absurd (none-some _ makes)
map_fits functions Every schema stream i row l never within makes fits = absurd (none-some _ makes)
map_fits functions Hop schema stream i row l never within makes fits = absurd (none-some _ makes)
map_fits functions Default schema stream i row l never within makes fits = absurd (none-some _ makes)
map_fits functions (Function n) schema stream i row l never within makes fits =
    let there = function_there functions n (λ function. own_map_makes function schema) stream makes in
    subst (λ (o : Option Written). AreRecordsOf stream (or_none (o >>= (λ function. map_emits i function row)))) (sym there.1)
    (own_map_fits there.0 schema stream i row l (all_at NeverStops functions n there.0 never there.1) (all_at (λ (f : Written). function_within f ≡ fine) functions n there.0 within there.1) there.2 fits)
