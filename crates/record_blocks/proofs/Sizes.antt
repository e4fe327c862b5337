-- The length of what things are written as, one after another, and of records of numbers alone.
use Rattle.std.proofs.Common.{◌≡◌, ℕ, suc, ◌+◌, ◌*◌, ◌<◌, List, [], ◌∷◌, ◌++◌, refl, sym, ap, ◌∙◌, map, length, get_or, drop, length-append, arith}
use Rattle.std.specs.List.{AllByRecursion, flat_map}
use Rattle.std.proofs.lemmas.List.{at_drop_more, length-map}
use Rattle.hal_base.specs.declared.value.Kind.{Kind}
use Rattle.hal_base.specs.declared.value.Kind.TheVariants as kind
use Rattle.hal_base.specs.declared.value.Value.{Value}
use Rattle.hal_base.specs.declared.value.Value.TheVariants.{Int, Text}
use Rattle.hal_base.specs.declared.record.Record.{Record}
use Rattle.hal_base.specs.declared.fields.Schema.{Schema}
use Rattle.hal_base.specs.Values.{kind_of, FitsSchema}
use Rattle.record_blocks.specs.Blocks.{value_bytes, record_bytes, number_bytes, kind_byte, block_head, block_text}

-- what is left to be written is one thing and what is behind it
pub one_less : {A : Type 0} (f : A → List ℕ) (xs : List A) (i : ℕ) (x : A) → i < length xs → x ≡ get_or xs i x → length (flat_map f (drop i xs)) ≡ length (f x) + length (flat_map f (drop (i + 1) xs))
one_less f xs i x l e =
    ap length (at_drop_more (λ ys. flat_map f ys) xs i x l)
    ∙ length-append (f (get_or xs i x)) (flat_map f (drop (i + 1) xs))
    ∙ ap (λ y. length (f y) + length (flat_map f (drop (i + 1) xs))) (sym e)

abbrev AreInts : List Kind → Type 0
AreInts kinds = AllByRecursion (λ (item : Kind). item ≡ kind.Int) kinds

eight : (v : Value) → kind_of v ≡ kind.Int → length (value_bytes v) ≡ 8
eight (Int n) e = refl
eight (Text bytes) e = cc

eights : (ks : List Kind) (vs : List Value) → AreInts ks → map kind_of vs ≡ ks → length (flat_map value_bytes vs) ≡ 8 * length ks
eights [] [] a e = refl
eights [] (v ∷ vs) a e = cc
eights (k ∷ ks) [] a e = cc
eights (k ∷ ks) (v ∷ vs) a e =
    let first : kind_of v ≡ k = cc in
    let others : map kind_of vs ≡ ks = cc in
    omega (arith, length-append (value_bytes v) (flat_map value_bytes vs), eight v (first ∙ a.0), eights ks vs a.1 others)

row_width : (schema : Schema) (row : Record) → AreInts (schema.key ∷ schema.fields) → FitsSchema schema row → length (record_bytes row) ≡ 8 * (length schema.fields + 1)
row_width schema row a f = omega (arith, length-append (value_bytes row.key) (flat_map value_bytes row.fields), eight row.key (f.key ∙ a.0), eights schema.fields row.fields a.1 f.fields)

more_times : (n w : ℕ) → suc n * w ≡ w + n * w
more_times n w = omega arith

-- records of numbers alone
pub all_widths : (schema : Schema) (rows : List Record) → AreInts (schema.key ∷ schema.fields) → AllByRecursion (FitsSchema schema) rows → length (flat_map record_bytes rows) ≡ length rows * (8 * (length schema.fields + 1))
all_widths schema [] a f = omega arith
all_widths schema (row ∷ rows) a f =
    let w = 8 * (length schema.fields + 1) in
    length-append (record_bytes row) (flat_map record_bytes rows)
    ∙ ap (λ n. n + length (flat_map record_bytes rows)) (row_width schema row a f.0)
    ∙ ap (λ n. w + n) (all_widths schema rows a f.1)
    ∙ sym (more_times (length rows) w)

-- a block is as long as its head, its count and its records
pub block_length : (schema : Schema) (rows : List Record) → length (block_text schema rows) ≡ (length schema.fields + 14) + length (flat_map record_bytes rows)
block_length schema rows = omega (arith, length-append (block_head schema) (number_bytes (length rows) ++ flat_map record_bytes rows), length-append (number_bytes (length rows)) (flat_map record_bytes rows), length-map schema.fields kind_byte)
