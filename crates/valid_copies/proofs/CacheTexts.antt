-- The text of a cache is that of one list: behind its index stands the block text of its records.
use Rattle.std.proofs.Common.{◌≡◌, ℕ, zero, suc, ◌+◌, ◌<◌, ◌≤◌, ◌^◌, List, [], ◌∷◌, ◌++◌, refl, sym, ap, ◌∙◌, map, length, drop, arith}
use Rattle.std.specs.List.{AllByRecursion, filter, flat_map}
use Rattle.std.specs.declared.cmp.Ordering.TheVariants.{Less, Equal, Greater}
use Rattle.std.proofs.lemmas.List.{append_assoc, drop_at, length-map}
use Rattle.hal_base.specs.declared.fields.Schema.{Schema}
use Rattle.hal_base.specs.declared.record.Record.{Record}
use Rattle.hal_base.specs.declared.value.Kind.{Kind}
use Rattle.hal_base.specs.declared.value.Kind.TheVariants as kind
use Rattle.hal_base.specs.declared.value.Value.{Value}
use Rattle.hal_base.specs.declared.value.Value.TheVariants.{Int, Text}
use Rattle.hal_base.specs.Laws.{value_cmp_total}
use Rattle.hal_base.specs.Order.{value_cmp}
use Rattle.hal_base.specs.Sorted.{by_order, distinct, joined}
use Rattle.hal_base.specs.Values.{IsRecordOf, kind_of}
use Rattle.hal_base.proofs.Strict.{all_distinct}
use Rattle.plain_job.specs.Job.{has_key, key_of}
use Rattle.plain_job.proofs.Lists.{all_mapped}
use Rattle.record_blocks.specs.Blocks.{FitBlock, block_text, number_bytes, record_bytes, value_bytes}
use Rattle.record_blocks.specs.steps.Decoders.{number}
use Rattle.record_blocks.proofs.ExactDecoders.{number_exact}
use Rattle.record_blocks.proofs.OneList.{one_list, same_left, same_what}
use Rattle.valid_copies.specs.Readings.{IsCache}
use Rattle.valid_copies.specs.Texts.{cache_text, index_text, rows_below}

-- ---- the index

-- what stands behind a value of this kind
abbrev behind_value : Kind → List ℕ → List ℕ
behind_value kind.Int bs = drop 8 bs
behind_value kind.Text [] = []
behind_value kind.Text (n ∷ bs) = drop n bs

value_passed : (key : Value) (rest : List ℕ) → behind_value (kind_of key) (value_bytes key ++ rest) ≡ rest
value_passed (Int n) rest = drop_at (value_bytes (Int n)) rest 8 refl
value_passed (Text bytes) rest = drop_at bytes rest (length bytes) refl

-- what stands behind so many lines of an index with keys of this kind
abbrev behind_lines : Kind → ℕ → List ℕ → List ℕ
behind_lines kind zero bs = bs
behind_lines kind (suc n) bs = behind_lines kind n (drop 8 (drop 8 (behind_value kind bs)))

two_passed : (a b : ℕ) (rest : List ℕ) → drop 8 (drop 8 ((number_bytes a ++ number_bytes b) ++ rest)) ≡ rest
two_passed a b rest =
    ap (λ bs. drop 8 (drop 8 bs)) (append_assoc (number_bytes a) (number_bytes b) rest)
    ∙ ap (drop 8) (drop_at (number_bytes a) (number_bytes b ++ rest) 8 refl)
    ∙ drop_at (number_bytes b) rest 8 refl

lines_passed : (kind : Kind) (rows : List Record) (keys : List Value) (rest : List ℕ) → AllByRecursion (λ key. kind_of key ≡ kind) keys → behind_lines kind (length keys) (flat_map (index_text rows) keys ++ rest) ≡ rest
lines_passed kind rows [] rest k = refl
lines_passed kind rows (key ∷ keys) rest k =
    let before : ℕ = length (flat_map record_bytes (rows_below key rows)) in
    let count : ℕ = length (filter (has_key key) rows) in
    let others : List ℕ = flat_map (index_text rows) keys ++ rest in
    let split : flat_map (index_text rows) (key ∷ keys) ++ rest ≡ value_bytes key ++ ((number_bytes before ++ number_bytes count) ++ others) =
    append_assoc (index_text rows key) (flat_map (index_text rows) keys) rest ∙ append_assoc (value_bytes key) (number_bytes before ++ number_bytes count) others in
    let passed : behind_value kind (flat_map (index_text rows) (key ∷ keys) ++ rest) ≡ (number_bytes before ++ number_bytes count) ++ others =
    ap (behind_value kind) split ∙ ap (λ (k : Kind). behind_value k (value_bytes key ++ ((number_bytes before ++ number_bytes count) ++ others))) (sym k.0) ∙ value_passed key ((number_bytes before ++ number_bytes count) ++ others) in
    ap (λ bs. behind_lines kind (length keys) (drop 8 (drop 8 bs))) passed
    ∙ ap (behind_lines kind (length keys)) (two_passed before count others)
    ∙ lines_passed kind rows keys rest k.1

-- ---- the keys

-- the different keys
abbrev keys_in : List Record → List Value
keys_in rows = distinct value_cmp (map key_of rows)

length_joined : (x : Value) (xs : List Value) → length (joined value_cmp x xs) ≤ length xs + 1
length_joined x [] = omega arith
length_joined x (y ∷ ys) = elim (value_cmp x y) as (λ r. length (by_order r (x ∷ y ∷ ys) (y ∷ ys) (y ∷ joined value_cmp x ys)) ≤ length (y ∷ ys) + 1) [
  | Less ↦ omega arith
  | Equal ↦ omega arith
  | Greater ↦ omega (arith, length_joined x ys)
]

length_distinct : (xs : List Value) → length (distinct value_cmp xs) ≤ length xs
length_distinct [] = omega arith
length_distinct (x ∷ xs) = omega (arith, length_joined x (distinct value_cmp xs), length_distinct xs)

few_keys : (schema : Schema) (rows : List Record) → FitBlock schema rows → length (keys_in rows) < 2 ^ 64
few_keys schema rows fit = omega (arith, length_distinct (map key_of rows), length-map rows key_of, fit.few)

keys_of_kind : (schema : Schema) (rows : List Record) → FitBlock schema rows → AllByRecursion (λ key. kind_of key ≡ schema.key) (keys_in rows)
keys_of_kind schema rows fit = all_distinct value_cmp_total (λ key. kind_of key ≡ schema.key) (map key_of rows) (all_mapped (IsRecordOf schema) (λ key. kind_of key ≡ schema.key) key_of rows (λ row r. r.fits.key) fit.each)

-- ---- the block

-- the index and the block
abbrev body : Schema → List Record → List ℕ
body schema rows = flat_map (index_text rows) (keys_in rows) ++ block_text schema rows

block_behind : (schema : Schema) (rows : List Record) → FitBlock schema rows → behind_lines schema.key (length (keys_in rows)) (body schema rows) ≡ block_text schema rows
block_behind schema rows fit = lines_passed schema.key rows (keys_in rows) (block_text schema rows) (keys_of_kind schema rows fit)

-- two lists with one cache text have one block text
same_block : (schema : Schema) (rows others : List Record) → FitBlock schema rows → FitBlock schema others → cache_text schema rows ≡ cache_text schema others → block_text schema rows ≡ block_text schema others
same_block schema rows others fit fits e =
    let numbered = ap (λ bs. number (drop 4 bs)) e in
    let read = sym (number_exact.again (length (keys_in rows)) (body schema rows) (few_keys schema rows fit)) ∙ numbered ∙ number_exact.again (length (keys_in others)) (body schema others) (few_keys schema others fits) in
    let n : length (keys_in rows) ≡ length (keys_in others) = same_what (length (keys_in rows)) (length (keys_in others)) (body schema rows) (body schema others) read in
    let rest : body schema rows ≡ body schema others = same_left (length (keys_in rows)) (length (keys_in others)) (body schema rows) (body schema others) read in
    sym (block_behind schema rows fit)
    ∙ ap (λ k. behind_lines schema.key k (body schema rows)) n
    ∙ ap (behind_lines schema.key (length (keys_in others))) rest
    ∙ block_behind schema others fits

-- no bytes are the cache text of two lists
pub one_cache : (schema : Schema) (bytes : List ℕ) (rows others : List Record) → IsCache schema bytes rows → IsCache schema bytes others → others ≡ rows
one_cache schema bytes rows others is other =
    one_list schema (block_text schema rows) rows others (record { records = is.records; text = refl })
    (record { records = other.records; text = same_block schema rows others is.records other.records (sym is.text ∙ other.text) })
