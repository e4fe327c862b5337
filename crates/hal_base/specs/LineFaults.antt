-- What is wrong with a line or a table that no record or no records stand for.
use Rattle.std.specs.Prelude.{◌≡◌, ◌≢◌, ◌==◌, ℕ, zero, suc, List, [], ◌∷◌, length}
use Rattle.std.specs.List.{slice_split}
use Rattle.hal_base.specs.declared.value.Kind.{Kind}
use Rattle.hal_base.specs.declared.value.Kind.TheVariants as kind
use Rattle.hal_base.specs.declared.value.Value.{Value}
use Rattle.hal_base.specs.declared.fields.Schema.{Schema}
use Rattle.hal_base.specs.declared.line.LineFault.{LineFault}
use Rattle.hal_base.specs.declared.line.LineFault.TheVariants.{FieldCount, BadNumber, BadText, Memory}
use Rattle.hal_base.specs.Values.{kind_of, IsValue, schema_kinds}
use Rattle.hal_base.specs.Lines.{value_text}

-- a value of this kind is written so
pub record Spelled (kind : Kind) (piece : List ℕ) : Type 0 where
  pub value : Value
  pub good : IsValue value
  pub same_kind : kind_of value ≡ kind
  pub spelling : value_text value ≡ piece

-- the pieces before this place are spelled as their kinds ask, and the one there, of kind bad, is not
abbrev pub FirstBad : Kind → List Kind → List (List ℕ) → ℕ → Type 0
FirstBad bad [] pieces n = ⊥
FirstBad bad (k ∷ ks) [] n = ⊥
FirstBad bad (k ∷ ks) (p ∷ ps) zero = (k ≡ bad) × (Spelled k p → ⊥)
FirstBad bad (k ∷ ks) (p ∷ ps) (suc n) = Spelled k p × FirstBad bad ks ps n

-- the pieces of a line
abbrev pub pieces_in : List ℕ → List (List ℕ)
pieces_in line = slice_split (λ b. b == 9) line

-- the fault is the first that the line has: the number of pieces, or else the first piece that is no value of its kind
abbrev pub HasFault : Schema → List ℕ → LineFault → Type 0
HasFault schema line FieldCount = length (pieces_in line) ≢ length (schema_kinds schema)
HasFault schema line (BadNumber n) = (length (pieces_in line) ≡ length (schema_kinds schema)) × FirstBad kind.Int (schema_kinds schema) (pieces_in line) n
HasFault schema line (BadText n) = (length (pieces_in line) ≡ length (schema_kinds schema)) × FirstBad kind.Text (schema_kinds schema) (pieces_in line) n
HasFault schema line Memory = Unit {0}
