-- What the bytes of a file stand for: a list of records.
use Rattle.std.specs.Prelude.{◌≡◌, ◌⊎◌, ℕ, List, [], Option, None, Some}
use Rattle.hal_base.specs.declared.record.Record.{Record}
use Rattle.hal_base.specs.declared.fields.Schema.{Schema}
use Rattle.hal_base.specs.declared.shape.Shape.{Shape}
use Rattle.hal_base.specs.Order.{record_cmp}
use Rattle.hal_base.specs.Sorted.{Ascending}
use Rattle.node_names.specs.declared.name.Name.{Name}
use Rattle.node_names.specs.declared.name.Name.TheVariants.{Blk, Spill, Out, Ric, Mic, Roc}
use Rattle.node_names.specs.declared.name.NameKind.{NameKind}
use Rattle.node_names.specs.declared.name.NameKind.TheVariants as kind
use Rattle.node_names.specs.Names.{kind_of}
use Rattle.record_blocks.specs.Blocks.{FitBlock, IsBlock}
use Rattle.partition_shuffle.specs.SpillTexts.{IsSection, IsSpill}
use Rattle.name_values.specs.Values.{Held, Parts, Rows, World, value_of}
use Rattle.valid_copies.specs.Texts.{cache_text, schema_of}

-- the bytes are the cache text of these records of the schema, which are in order
pub record IsCache (schema : Schema) (bytes : List ℕ) (rows : List Record) : Type 0 where
  pub records : FitBlock schema rows
  pub in_order : Ascending record_cmp rows
  pub text : bytes ≡ cache_text schema rows

-- the bytes of a file of this sort are the text of these records of the schema; of a spill, they are its section of this part
abbrev pub IsTextIn : NameKind → Schema → List ℕ → ℕ → List Record → Type 0
IsTextIn kind.Blk schema bytes part rows = IsBlock schema bytes rows
IsTextIn kind.Spill schema bytes part rows = IsSection schema bytes part rows
IsTextIn kind.Out schema bytes part rows = IsBlock schema bytes rows
IsTextIn kind.Ric schema bytes part rows = IsCache schema bytes rows
IsTextIn kind.Mic schema bytes part rows = IsBlock schema bytes rows
IsTextIn kind.Roc schema bytes part rows = IsCache schema bytes rows

-- P of the schema, which there is
abbrev pub OfSchema : (Schema → Type 0) → Option Schema → Type 0
OfSchema P None = ⊥
OfSchema P (Some schema) = P schema

-- the bytes of the name's file are the text of these records
abbrev pub IsListOf : Shape → Name → List ℕ → ℕ → List Record → Type 0
IsListOf shape name bytes part rows = OfSchema (λ schema. IsTextIn (kind_of name) schema bytes part rows) (schema_of shape name)

-- records with P, or no records where none have it
abbrev pub OrNone : (List Record → Type 0) → List Record → Type 0
OrNone P rows = P rows ⊎ (((others : List Record) → P others → ⊥) × (rows ≡ []))

-- what the bytes of the name's file stand for
abbrev pub StandsFor : Shape → Name → List ℕ → ℕ → List Record → Type 0
StandsFor shape name bytes part rows = OrNone (IsListOf shape name bytes part) rows

-- a file that no other file stands for as a cache: no Ric or Roc
abbrev pub IsFile : Name → Type 0
IsFile (Blk t b) = Unit {0}
IsFile (Spill i j s q) = Unit {0}
IsFile (Out i j p) = Unit {0}
IsFile (Ric j s p) = ⊥
IsFile (Mic t b) = Unit {0}
IsFile (Roc i p) = ⊥

-- ---- what a file holds

-- the bytes of a file of this sort are the text of these records of the schema; no spill is one of records without parts
abbrev pub IsTextOfRows : NameKind → Schema → List ℕ → List Record → Type 0
IsTextOfRows kind.Blk schema bytes rows = IsBlock schema bytes rows
IsTextOfRows kind.Spill schema bytes rows = ⊥
IsTextOfRows kind.Out schema bytes rows = IsBlock schema bytes rows
IsTextOfRows kind.Ric schema bytes rows = IsCache schema bytes rows
IsTextOfRows kind.Mic schema bytes rows = IsBlock schema bytes rows
IsTextOfRows kind.Roc schema bytes rows = IsCache schema bytes rows

-- the bytes are the text of what a file of this sort holds
abbrev pub IsTextOfHeld : NameKind → List ℕ → Held → Schema → Type 0
IsTextOfHeld kind bytes (Rows rows) schema = IsTextOfRows kind schema bytes rows
IsTextOfHeld kind bytes (Parts parts) schema = IsSpill schema bytes parts

-- the bytes are the text of what the name's file holds
abbrev pub IsTextOf : Shape → Name → List ℕ → Held → Type 0
IsTextOf shape name bytes held = OfSchema (IsTextOfHeld (kind_of name) bytes held) (schema_of shape name)

-- the value of a name has a text
pub record HasText (w : World) (name : Name) : Type 0 where
  pub bytes : List ℕ
  pub is : IsTextOf w.shape name bytes (value_of w name)
