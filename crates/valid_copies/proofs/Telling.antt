-- The value of a name and the bytes of its file.
use Rattle.std.proofs.Common.{◌≡◌, ℕ, inl, inr, List, [], Option, None, Some, sym, ◌∙◌, subst}
use Rattle.hal_base.specs.declared.fields.Schema.{Schema}
use Rattle.hal_base.specs.declared.record.Record.{Record}
use Rattle.node_names.specs.declared.name.Name.TheVariants.{Blk, Spill, Out, Ric, Mic, Roc}
use Rattle.node_names.specs.declared.name.NameKind.{NameKind}
use Rattle.node_names.specs.declared.name.NameKind.TheVariants as kind
use Rattle.name_values.specs.Values.{Held, Parts, Rows, list_of, value_of}
use Rattle.plain_job.specs.Chain.{table_at}
use Rattle.plain_job.proofs.Tables.{table_missing, table_there}
use Rattle.record_blocks.specs.Blocks.{IsBlock}
use Rattle.record_blocks.proofs.OneList.{one_list}
use Rattle.partition_shuffle.specs.SpillTexts.{IsSection, IsSpill}
use Rattle.partition_shuffle.proofs.Spilled.{section_is_the_part}
use Rattle.valid_copies.specs.Readings.{IsCache, IsTextIn, IsTextOf, IsTextOfHeld, IsTextOfRows, OfSchema, OrNone}
use Rattle.valid_copies.specs.Telling.{BytesTellTheValue, TextIsOfTheValue}
use Rattle.valid_copies.specs.Texts.{schema_of}
use Rattle.valid_copies.proofs.CacheTexts.{one_cache}
use Rattle.valid_copies.proofs.Steps.{text_is}

-- ---- what bytes stand for

-- records that bytes stand for are those of which they are the text, if there are some
the_one : (P : List Record → Type 0) (value rows : List Record) → P value → ((others : List Record) → P others → others ≡ value) → OrNone P rows → rows ≡ value
the_one P value rows is one found = elim found [ inl it ↦ one rows it | inr none ↦ absurd (none.0 value is) ]

-- a section of the text of parts is the part, or empty where there is none
the_section : (schema : Schema) (bytes : List ℕ) (part : ℕ) (parts : List (List Record)) (rows : List Record) → IsSpill schema bytes parts → OrNone (IsSection schema bytes part) rows → rows ≡ table_at parts part
the_section schema bytes part parts rows is found = elim found [
  | inl it ↦ table_there parts part rows (sym (section_is_the_part schema bytes parts part (Some rows) is it))
  | inr none ↦ none.1 ∙ table_missing parts part (sym (section_is_the_part schema bytes parts part None is none.0))
]

rows_told : (k : NameKind) (schema : Schema) (bytes : List ℕ) (part : ℕ) (value rows : List Record) → IsTextOfRows k schema bytes value → OrNone (IsTextIn k schema bytes part) rows → rows ≡ value
rows_told kind.Blk schema bytes part value rows is found = the_one (IsBlock schema bytes) value rows is (λ others other. one_list schema bytes value others is other) found
rows_told kind.Spill schema bytes part value rows is found = absurd is
rows_told kind.Out schema bytes part value rows is found = the_one (IsBlock schema bytes) value rows is (λ others other. one_list schema bytes value others is other) found
rows_told kind.Ric schema bytes part value rows is found = the_one (IsCache schema bytes) value rows is (λ others other. one_cache schema bytes value others is other) found
rows_told kind.Mic schema bytes part value rows is found = the_one (IsBlock schema bytes) value rows is (λ others other. one_list schema bytes value others is other) found
rows_told kind.Roc schema bytes part value rows is found = the_one (IsCache schema bytes) value rows is (λ others other. one_cache schema bytes value others is other) found

-- the parts that a file holds
abbrev sections_of : Held → List (List Record)
sections_of (Rows rows) = []
sections_of (Parts parts) = parts

of_rows : (k : NameKind) (schema : Option Schema) (bytes : List ℕ) (part : ℕ) (value rows : List Record) → OfSchema (IsTextOfHeld k bytes (Rows value)) schema → OrNone (λ rows. OfSchema (λ schema. IsTextIn k schema bytes part rows) schema) rows → rows ≡ value
of_rows k None bytes part value rows is found = absurd is
of_rows k (Some schema) bytes part value rows is found = rows_told k schema bytes part value rows is found

of_parts : (schema : Option Schema) (bytes : List ℕ) (part : ℕ) (parts : List (List Record)) (rows : List Record) → OfSchema (IsTextOfHeld kind.Spill bytes (Parts parts)) schema → OrNone (λ rows. OfSchema (λ schema. IsTextIn kind.Spill schema bytes part rows) schema) rows → rows ≡ table_at parts part
of_parts None bytes part parts rows is found = absurd is
of_parts (Some schema) bytes part parts rows is found = the_section schema bytes part parts rows is found

pub value_told : BytesTellTheValue
value_told w (Blk t b) part bytes rows is found = of_rows kind.Blk (schema_of w.shape (Blk t b)) bytes part (list_of part (value_of w (Blk t b))) rows is found
value_told w (Spill i j s q) part bytes rows is found = of_parts (schema_of w.shape (Spill i j s q)) bytes part (sections_of (value_of w (Spill i j s q))) rows is found
value_told w (Out i j p) part bytes rows is found = of_rows kind.Out (schema_of w.shape (Out i j p)) bytes part (list_of part (value_of w (Out i j p))) rows is found
value_told w (Ric j s p) part bytes rows is found = of_rows kind.Ric (schema_of w.shape (Ric j s p)) bytes part (list_of part (value_of w (Ric j s p))) rows is found
value_told w (Mic t b) part bytes rows is found = of_rows kind.Mic (schema_of w.shape (Mic t b)) bytes part (list_of part (value_of w (Mic t b))) rows is found
value_told w (Roc i p) part bytes rows is found = of_rows kind.Roc (schema_of w.shape (Roc i p)) bytes part (list_of part (value_of w (Roc i p))) rows is found

-- ---- the text of a name

same_bytes : (a b : List ℕ) → Some a ≡ Some b → a ≡ b
same_bytes a b e = cc

pub text_only : TextIsOfTheValue
text_only w name bytes has e =
    let same : has.bytes ≡ bytes = same_bytes has.bytes bytes (sym (text_is w name has.bytes has.is) ∙ e) in
    subst (λ (bs : List ℕ). IsTextOf w.shape name bs (value_of w name)) same has.is
