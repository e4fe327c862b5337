-- The value of a name and the bytes of its file tell each other.
use Rattle.std.specs.Prelude.{◌≡◌, ℕ, List, Some}
use Rattle.hal_base.specs.declared.record.Record.{Record}
use Rattle.node_names.specs.declared.name.Name.{Name}
use Rattle.name_values.specs.Values.{World, list_of, value_of}
use Rattle.valid_copies.specs.Readings.{HasText, IsTextOf, StandsFor}
use Rattle.valid_copies.specs.Texts.{text_of}

-- bytes that are the text of a name's value stand for that value, of a spill for its section
abbrev pub BytesTellTheValue : Type 0
BytesTellTheValue = (w : World) (name : Name) (part : ℕ) (bytes : List ℕ) (rows : List Record) → IsTextOf w.shape name bytes (value_of w name) → StandsFor w.shape name bytes part rows → rows ≡ list_of part (value_of w name)

-- bytes that are the text of a name's value are the text of the name
abbrev pub ValueTellsTheText : Type 0
ValueTellsTheText = (w : World) (name : Name) (bytes : List ℕ) → IsTextOf w.shape name bytes (value_of w name) → text_of w name ≡ Some bytes

-- where the value of a name has a text, the text of the name is that text
abbrev pub TextIsOfTheValue : Type 0
TextIsOfTheValue = (w : World) (name : Name) (bytes : List ℕ) → HasText w name → text_of w name ≡ Some bytes → IsTextOf w.shape name bytes (value_of w name)
