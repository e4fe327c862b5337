-- Decoders of spills, and what functions ensure that pass over sections.
use Rattle.std.specs.Prelude.{◌≡◌, ℕ, zero, suc, ◌&&◌, if◌then◌else◌, not, Bool, true, List, [], ◌∷◌, Option, None, Some, Result, Ok, Err, codes, slice_get}
use Rattle.std.specs.Ordering.{is_gt}
use Rattle.hal_base.specs.declared.record.Record.{Record}
use Rattle.hal_base.specs.declared.fields.Schema.{Schema}
use Rattle.hal_base.specs.Order.{record_cmp}
use Rattle.record_blocks.specs.declared.fault.TextFault.{TextFault}
use Rattle.record_blocks.specs.declared.fault.TextFault.TheVariants as fault
use Rattle.record_blocks.specs.Decoded.{Decoded}
use Rattle.record_blocks.specs.steps.Decoders.{Decoder, ◌>>=◌, pure, number, short, some_bytes, after, row, many, block}

-- a record that is not below the one before it, if there is one
abbrev pub keeps_order : Option Record → Record → Bool
keeps_order None row = true
keeps_order (Some before) row = not (is_gt (record_cmp before row))

-- each record is not below the one before it
abbrev pub in_order : Option Record → List Record → Bool
in_order before [] = true
in_order before (row ∷ rows) = keeps_order before row && in_order (Some row) rows

-- records that were read, if they are in order
abbrev pub if_in_order : Option Record → Option (List Record × List ℕ) → Option (List Record × List ℕ)
if_in_order before None = None
if_in_order before (Some read) = if in_order before read.0 then Some read else None

-- what was read, if nothing is behind it
abbrev pub at_the_end : {A : Type 0} → A → List ℕ → Option A
at_the_end a [] = Some a
at_the_end a (b ∷ bs) = None

abbrev pub ended : {A : Type 0} → Option (A × List ℕ) → Option A
ended None = None
ended (Some read) = at_the_end read.0 read.1

-- the records in order of which the bytes are the block text
unfoldable pub sorted_block : Schema → List ℕ → Option (List Record)
sorted_block schema bytes = ended (if_in_order None (block schema bytes))

-- what was found elsewhere, with nothing read
abbrev pub lifted : {A : Type 0} → Option A → Decoder A
lifted None bs = None
lifted (Some a) bs = Some (a, bs)

-- the records in order of a block of so many bytes
unfoldable pub sized_block : Schema → ℕ → Decoder (List Record)
sized_block schema n = do
  bytes ← some_bytes n
  lifted (sorted_block schema bytes)

-- the section of a part
unfoldable pub section : Schema → Decoder (List Record)
section schema = do
  n ← number
  rows ← sized_block schema n
  pure rows

-- the number of parts, and their sections
unfoldable pub sections : Schema → Decoder (List (List Record))
sections schema = do
  n ← short
  parts ← many (section schema) n
  pure parts

-- a spill
unfoldable pub spill : Schema → Decoder (List (List Record))
spill schema = do
  mark ← after (codes "HLS1")
  parts ← sections schema
  pure parts

-- the bytes behind what was read
abbrev pub behind : {A : Type 0} → Option (A × List ℕ) → Option (List ℕ)
behind None = None
behind (Some read) = Some read.1

-- what a function that finds something in the whole bytes ensures
abbrev pub Finds : {A : Type 0} → Option A → Result A TextFault → Type 0
Finds found (Ok a) = found ≡ Some a
Finds found (Err fault.Memory) = Unit {0}
Finds found (Err fault.Malformed) = found ≡ None

-- what a function that looks through the whole bytes ensures, and finds that something is there
abbrev pub Approves : {A : Type 0} → Option A → Result (Unit {0}) TextFault → Type 0
Approves found (Ok u) = (a : _) × (found ≡ Some a)
Approves found (Err fault.Memory) = Unit {0}
Approves found (Err fault.Malformed) = found ≡ None

-- what a function that passes over something ensures: the bytes behind it
abbrev pub Passes : Option (List ℕ) → Result (Unit {0}) TextFault → List ℕ → Type 0
Passes behind (Ok u) new = behind ≡ Some new
Passes behind (Err fault.Memory) new = Unit {0}
Passes behind (Err fault.Malformed) new = behind ≡ None

-- a record that was read, if it is not below the one before it
abbrev pub if_kept : Option Record → Option (Record × List ℕ) → Option (Record × List ℕ)
if_kept before None = None
if_kept before (Some read) = if keeps_order before read.0 then Some read else None

-- the next record, which must not be below the one before it
abbrev pub next_row : Schema → Option Record → Decoder Record
next_row schema before = λ bs. if_kept before (row schema bs)

-- goes on behind what was read
abbrev pub onward : Option (Record × List ℕ) → (Record → List ℕ → Option (List ℕ)) → Option (List ℕ)
onward None others = None
onward (Some read) others = others read.0 read.1

-- the bytes behind so many records, which follow another in order
unfoldable pub passed : Schema → Option Record → ℕ → List ℕ → Option (List ℕ)
passed schema before zero bs = Some bs
passed schema before (suc n) bs = onward (next_row schema before bs) (λ read. passed schema (Some read) n)

-- the bytes are parts with nothing behind them, and the part of this number is these records
pub record IsPart (read : Option (List (List Record) × List ℕ)) (part : ℕ) (rows : List Record) : Type 0 where
  pub parts : List (List Record)
  pub whole : read ≡ Some (parts, [])
  pub here : slice_get parts part ≡ Some rows

-- what a function that picks a part ensures, where there is a part of this number
abbrev pub PicksAmong : Option (List (List Record) × List ℕ) → ℕ → Result (List Record) TextFault → Type 0
PicksAmong read part (Ok rows) = IsPart read part rows
PicksAmong read part (Err fault.Memory) = Unit {0}
PicksAmong read part (Err fault.Malformed) = (parts : List (List Record)) → read ≡ Some (parts, []) → ⊥

-- what a function that picks a part ensures
abbrev pub Picks : Option (List (List Record) × List ℕ) → ℕ → Result (Option (List Record)) TextFault → Type 0
Picks read part (Ok picked) = Decoded (IsPart read part) picked
Picks read part (Err fault.Memory) = Unit {0}
Picks read part (Err fault.Malformed) = (rows : List Record) → IsPart read part rows → ⊥
