-- Decoders: what is read at the front of bytes, and the bytes behind it.
use Rattle.std.specs.Prelude.{◌≡◌, ℕ, zero, suc, ◌==◌, ◌&&◌, if◌then◌else◌, nat_lt, nat_le, Bool, List, [], ◌∷◌, ◌++◌, length, take, drop, Option, None, Some, Result, Ok, Err}
use Rattle.std.specs.Int.{w16, w64, from_be_bytes, cast_signed}
use Rattle.std.specs.List.{list_all}
use Rattle.hal_base.specs.declared.value.Kind.{Kind}
use Rattle.hal_base.specs.declared.value.Kind.TheVariants as kind
use Rattle.hal_base.specs.declared.value.Value.{Value}
use Rattle.hal_base.specs.declared.value.Value.TheVariants.{Int, Text}
use Rattle.hal_base.specs.declared.record.Record.{Record}
use Rattle.hal_base.specs.declared.fields.Schema.{Schema}
use Rattle.record_blocks.specs.declared.fault.TextFault.{TextFault}
use Rattle.record_blocks.specs.declared.fault.TextFault.TheVariants as fault
use Rattle.record_blocks.specs.Blocks.{block_head}

-- what is read at the front, if it stands there, and the bytes behind it
abbrev pub Decoder : Type 0 → Type 0
Decoder A = List ℕ → Option (A × List ℕ)

-- goes on behind what was read
abbrev pub and_then : {A B : Type 0} → Option (A × List ℕ) → (A → Decoder B) → Option (B × List ℕ)
and_then None f = None
and_then (Some x) f = f x.0 x.1

infixl 10 ◌>>=◌
abbrev pub ◌>>=◌ : {A B : Type 0} → Decoder A → (A → Decoder B) → Decoder B
p >>= f = λ bs. and_then (p bs) f

-- this, with nothing read
abbrev pub pure : {A : Type 0} → A → Decoder A
pure a = λ bs. Some (a, bs)

-- what a function that reads ensures: what the decoder comes to, unless memory fails
abbrev pub Decodes : {A : Type 0} → Option (A × List ℕ) → Result A TextFault → List ℕ → Type 0
Decodes read (Ok a) new = read ≡ Some (a, new)
Decodes read (Err fault.Memory) new = Unit {0}
Decodes read (Err fault.Malformed) new = read ≡ None

-- the same of a function that reads into a place: what is there then
abbrev pub DecodesInto : {A B : Type 0} → Option (A × List ℕ) → Result B TextFault → A → List ℕ → Type 0
DecodesInto read (Ok _) made new = read ≡ Some (made, new)
DecodesInto read (Err fault.Memory) made new = Unit {0}
DecodesInto read (Err fault.Malformed) made new = read ≡ None

-- the next byte
unfoldable pub byte : Decoder ℕ
byte [] = None
byte (b ∷ bs) = Some (b, bs)

-- a number in eight bytes
unfoldable pub number : Decoder ℕ
number bs = if nat_lt (length bs) 8 then None else Some (from_be_bytes w64 (take 8 bs), drop 8 bs)

-- a number in two bytes
unfoldable pub short : Decoder ℕ
short bs = if nat_lt (length bs) 2 then None else Some (from_be_bytes w16 (take 2 bs), drop 2 bs)

-- so many bytes
unfoldable pub some_bytes : ℕ → Decoder (List ℕ)
some_bytes n bs = if nat_lt (length bs) n then None else Some (take n bs, drop n bs)

-- a byte that can stand in a text
abbrev pub printable : ℕ → Bool
printable b = nat_le 32 b && nat_le b 126

-- so many bytes that can stand in a text
unfoldable pub text : ℕ → Decoder (List ℕ)
text n bs = if nat_lt (length bs) n then None else if list_all printable (take n bs) then Some (take n bs, drop n bs) else None

-- these bytes, which must come next
unfoldable pub after : List ℕ → Decoder (Unit {0})
after [] bs = Some (tt, bs)
after (w ∷ ws) [] = None
after (w ∷ ws) (b ∷ bs) = if b == w then after ws bs else None

-- a value of this kind
unfoldable pub value : Kind → Decoder Value
value kind.Int = do
  n ← number
  pure (Int (cast_signed w64 n))
value kind.Text = do
  n ← byte
  bytes ← text n
  pure (Text bytes)

-- a value of each kind
unfoldable pub values : List Kind → Decoder (List Value)
values [] = pure []
values (k ∷ ks) = do
  v ← value k
  vs ← values ks
  pure (v ∷ vs)

-- a record of its parts
abbrev pub made : Value → List Value → Record
made key fields = record { key = key; fields = fields }

-- a record of the schema
unfoldable pub row : Schema → Decoder Record
row schema = do
  key ← value schema.key
  fields ← values schema.fields
  pure (made key fields)

-- so many of them, one after another
unfoldable pub many : {A : Type 0} → Decoder A → ℕ → Decoder (List A)
many p zero = pure []
many p (suc n) = do
  x ← p
  xs ← many p n
  pure (x ∷ xs)

-- the number of records, and the records
unfoldable pub counted : Schema → Decoder (List Record)
counted schema = do
  n ← number
  rows ← many (row schema) n
  pure rows

-- a block of the schema
unfoldable pub block : Schema → Decoder (List Record)
block schema = do
  head ← after (block_head schema)
  rows ← counted schema
  pure rows

-- what was read, with these in front of it
abbrev pub with_front : {A : Type 0} → List A → Option (List A × List ℕ) → Option (List A × List ℕ)
with_front front None = None
with_front front (Some x) = Some (front ++ x.0, x.1)

-- the one thing that was read, behind these
abbrev pub one_behind : {A : Type 0} → List A → Option (A × List ℕ) → Option (List A × List ℕ)
one_behind front None = None
one_behind front (Some x) = Some (front ++ x.0 ∷ [], x.1)

-- what a function that reads the whole ensures: what was read, with nothing behind it
abbrev pub DecodesWhole : {A : Type 0} → Option (A × List ℕ) → Result A TextFault → Type 0
DecodesWhole read (Ok a) = read ≡ Some (a, [])
DecodesWhole read (Err fault.Memory) = Unit {0}
DecodesWhole read (Err fault.Malformed) = (a : _) → read ≡ Some (a, []) → ⊥
