-- Copies that are valid, and disks to which their texts were put.
use Rattle.std.specs.Prelude.{◌≡◌, ℕ, false, List, Option, Some, IfSome}
use Rattle.std.specs.List.{AllByRecursion}
use Rattle.std.specs.Option.{option_map}
use Rattle.node_names.specs.declared.name.Name.{Name}
use Rattle.hal_outside.specs.DiskFiles.{file_at}
use Rattle.hal_outside.specs.DiskTold.{DiskTold}
use Rattle.node_files.specs.declared.files.Fetched.{Fetched}
use Rattle.node_files.specs.declared.files.Fetched.TheVariants.{Bytes, Missed}
use Rattle.replica_table.specs.Copies.{Copy}
use Rattle.replica_table.specs.Sets.{among}
use Rattle.valid_copies.specs.Readings.{HasText}
use Rattle.valid_copies.specs.Texts.{text_of}
use Rattle.name_values.specs.Values.{World}
use Rattle.sha2.specs.Sha256.{sha256}

-- a copy is valid: its kept digest is the SHA-256 of the text of its name
abbrev pub IsValid : World → Copy → Type 0
IsValid w copy = option_map sha256 (text_of w copy.name) ≡ Some copy.kept.0

-- the text of its name was put to its node
abbrev pub WasPut : World → DiskTold → Copy → Type 0
WasPut w told copy = file_at told.put copy.node copy.name ≡ text_of w copy.name

-- each copy is valid, of a name whose value has a text, and, where the disks tell, was put to its node
pub record Stands (w : World) (copies : List Copy) (told : Option DiskTold) : Type 0 where
  pub valid : AllByRecursion (IsValid w) copies
  pub spelled : AllByRecursion (λ (copy : Copy). HasText w copy.name) copies
  pub put : IfSome told (λ it. AllByRecursion (WasPut w it) copies)

-- what was fetched is this text, if it was not missed
abbrev pub IsText : Option (List ℕ) → Fetched → Type 0
IsText text (Bytes bytes) = text ≡ Some bytes.items
IsText text Missed = Unit {0}

-- the copy of these bytes
abbrev pub copy_of_bytes : Name → ℕ → List ℕ → Copy
copy_of_bytes name node bytes = record { name = name; node = node; kept = record { 0 = sha256 bytes } }

-- on all nodes but these, files were put as before
abbrev pub OthersStay : List ℕ → DiskTold → DiskTold → Type 0
OthersStay nodes old new = (n : ℕ) (name : Name) → among n nodes ≡ false → file_at new.put n name ≡ file_at old.put n name
