-- Kept digests that are those of what was last written, and reads that ask for them.
use Rattle.std.specs.Prelude.{◌≡◌, ℕ, ◌==◌, ◌&&◌, if◌then◌else◌, List, [], ◌∷◌, ◌++◌, Option, None, Some, IfSome}
use Rattle.std.specs.Option.{option_map, option_or}
use Rattle.node_names.specs.declared.digest.Digest.{Digest}
use Rattle.node_names.specs.declared.name.Name.{Name}
use Rattle.hal_outside.specs.DiskCalls as disk
use Rattle.hal_outside.specs.DiskTold.{DiskTold}
use Rattle.hal_outside.specs.Told.{OnTold}
use Rattle.replica_table.specs.Copies.{Copy, held, is_name}
use Rattle.sha2.specs.Sha256.{sha256}
use Rattle.valid_copies.specs.Calls.{CallsHave}

-- what a call writes as the file of a name on a node
abbrev pub written_by : ℕ → Name → disk.Call → Option (List ℕ)
written_by node name (disk.Write on other bytes) = if is_name name other && node == on then Some bytes else None
written_by node name (disk.Read on other want answer) = None
written_by node name (disk.Remove on other) = None
written_by node name (disk.Wipe on) = None

-- what these calls last wrote as this file
abbrev pub last_written : ℕ → Name → List disk.Call → Option (List ℕ)
last_written node name [] = None
last_written node name (call ∷ calls) = option_or (last_written node name calls) (written_by node name call)

-- the digest is that of what was last written as the file
abbrev pub IsOfLast : List disk.Call → ℕ → Name → List ℕ → Type 0
IsOfLast calls node name digest = option_map sha256 (last_written node name calls) ≡ Some digest

-- the digest that is kept of each copy is that of what was last written as its file, where the disks tell
abbrev pub DigestsAgree : List Copy → Option DiskTold → Type 0
DigestsAgree copies told = IfSome told (λ it. (name : Name) (node : ℕ) (digest : Digest) → held name node copies ≡ Some digest → IsOfLast it.calls node name digest.0)

-- the call, if it is a read, asks for the digest of what was last written as its file before
abbrev pub AsksForLast : List disk.Call → disk.Call → Type 0
AsksForLast before (disk.Write node name bytes) = Unit {0}
AsksForLast before (disk.Read node name want answer) = IsOfLast before node name want
AsksForLast before (disk.Remove node name) = Unit {0}
AsksForLast before (disk.Wipe node) = Unit {0}

-- and so do these calls, one after another
abbrev pub AllAskForLast : List disk.Call → List disk.Call → Type 0
AllAskForLast before [] = Unit {0}
AllAskForLast before (call ∷ calls) = AsksForLast before call × AllAskForLast (before ++ call ∷ []) calls

-- each read that was added asks for the digest of what was last written before as its file
pub record AskedForLast (old new : DiskTold) : Type 0 where
  pub calls : List disk.Call
  pub added : new.calls ≡ old.calls ++ calls
  pub each : AllAskForLast old.calls calls

-- where the kept digests of the old copies are those of what was last written, so are those of the new ones then
abbrev pub KeepsDigests : List Copy → List Copy → Option DiskTold → Option DiskTold → Type 0
KeepsDigests old new before after = DigestsAgree old before → DigestsAgree new after

-- and then each read that was added asks for such a digest
abbrev pub AsksByDigests : List Copy → Option DiskTold → Option DiskTold → Type 0
AsksByDigests copies before after = DigestsAgree copies before → OnTold AskedForLast before after

-- ---- calls that read copies

-- the call reads a file of which a digest is kept, and asks for it
abbrev pub AsksForCopy : List Copy → disk.Call → Type 0
AsksForCopy copies (disk.Write node name bytes) = ⊥
AsksForCopy copies (disk.Read node name want answer) = held name node copies ≡ Some (record { 0 = want })
AsksForCopy copies (disk.Remove node name) = ⊥
AsksForCopy copies (disk.Wipe node) = ⊥

-- each call that was added reads a copy
abbrev pub ReadsCopies : List Copy → Option DiskTold → Option DiskTold → Type 0
ReadsCopies copies before after = CallsHave (AsksForCopy copies) before after

-- ---- calls that write nothing

-- the call writes no file
abbrev pub WritesNothing : disk.Call → Type 0
WritesNothing (disk.Write node name bytes) = ⊥
WritesNothing (disk.Read node name want answer) = Unit {0}
WritesNothing (disk.Remove node name) = Unit {0}
WritesNothing (disk.Wipe node) = Unit {0}

-- the call writes these bytes as a file of this name
abbrev pub IsWriteOf : Name → List ℕ → disk.Call → Type 0
IsWriteOf name bytes (disk.Write node other written) = (other ≡ name) × (written ≡ bytes)
IsWriteOf name bytes (disk.Read node other want answer) = ⊥
IsWriteOf name bytes (disk.Remove node other) = ⊥
IsWriteOf name bytes (disk.Wipe node) = ⊥
