-- What the steps of reading a line find, for their contracts alone.
use Rattle.std.specs.Prelude.{◌≡◌, ◌≢◌, ℕ, suc, List, [], Option, None, Some, map}
use Rattle.std.specs.List.{AllByRecursion}
use Rattle.hal_base.specs.declared.value.Kind.{Kind}
use Rattle.hal_base.specs.declared.value.Kind.TheVariants as kind
use Rattle.hal_base.specs.declared.value.Value.{Value}
use Rattle.hal_base.specs.declared.line.LineFault.{LineFault}
use Rattle.hal_base.specs.declared.line.LineFault.TheVariants.{FieldCount, BadNumber, BadText, Memory}
use Rattle.hal_base.specs.declared.table.TableFault.{TableFault}
use Rattle.hal_base.specs.declared.table.TableFault.TheVariants as table
use Rattle.hal_base.specs.declared.table.TableFault.TheVariants.{Line, TooMany}
use Rattle.hal_base.specs.declared.fields.Schema.{Schema}
use Rattle.hal_base.specs.Values.{kind_of, IsValue}
use Rattle.hal_base.specs.Lines.{value_text}
use Rattle.hal_base.specs.LineFaults.{Spelled, FirstBad, HasFault, pieces_in}

-- the pieces of what is left of a line, if something is
abbrev pub pieces_left : Option (List ℕ) → List (List ℕ)
pieces_left None = []
pieces_left (Some line) = pieces_in line

-- the value is of this kind, and written so
pub record IsRead (kind : Kind) (piece : List ℕ) (value : Value) : Type 0 where
  pub good : IsValue value
  pub same_kind : kind_of value ≡ kind
  pub spelling : value_text value ≡ piece

-- the values are of these kinds, and written so
pub record AreRead (kinds : List Kind) (pieces : List (List ℕ)) (values : List Value) : Type 0 where
  pub good : AllByRecursion IsValue values
  pub same_kinds : map kind_of values ≡ kinds
  pub spelling : map value_text values ≡ pieces

-- the piece at this place is no value of its kind
abbrev pub HasPieceFault : Kind → ℕ → List ℕ → LineFault → Type 0
HasPieceFault sort place piece FieldCount = ⊥
HasPieceFault sort place piece (BadNumber n) = (n ≡ place) × (sort ≡ kind.Int) × (Spelled sort piece → ⊥)
HasPieceFault sort place piece (BadText n) = (n ≡ place) × (sort ≡ kind.Text) × (Spelled sort piece → ⊥)
HasPieceFault sort place piece Memory = Unit {0}

-- the first piece past the key that is no value of its kind
abbrev pub HasFieldFault : List Kind → List (List ℕ) → LineFault → Type 0
HasFieldFault kinds pieces FieldCount = ⊥
HasFieldFault kinds pieces (BadNumber n) = (place : ℕ) × (n ≡ suc place) × FirstBad kind.Int kinds pieces place
HasFieldFault kinds pieces (BadText n) = (place : ℕ) × (n ≡ suc place) × FirstBad kind.Text kinds pieces place
HasFieldFault kinds pieces Memory = Unit {0}

-- what a line, with its CR, was read as
abbrev pub HasNumberedFault : Schema → ℕ → List ℕ → TableFault → Type 0
HasNumberedFault schema number next (Line n what) = (n ≡ number) × HasFault schema next what × (what ≢ Memory)
HasNumberedFault schema number next (TooMany n) = ⊥
HasNumberedFault schema number next table.Memory = Unit {0}
