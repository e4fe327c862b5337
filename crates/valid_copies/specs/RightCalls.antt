-- Calls that write texts and ask for their digests, and reads that do not miss.
use Rattle.std.specs.Prelude.{◌≡◌, ℕ, List, Some, IsSome}
use Rattle.hal_outside.specs.declared.disks.Disks.{Ghosts as Disks}
use Rattle.hal_outside.specs.DiskCalls as disk
use Rattle.hal_outside.specs.DiskTold.{DiskTold}
use Rattle.hal_outside.specs.Told.{OnTold}
use Rattle.name_values.specs.Values.{World}
use Rattle.sha2.specs.Sha256.{sha256}
use Rattle.valid_copies.specs.Calls.{AddedSuch}
use Rattle.valid_copies.specs.Texts.{text_of}

-- what a call writes, if it writes, is the text of the file's name, and a read asks for the digest of that text
abbrev pub IsRightCall : World → disk.Call → Type 0
IsRightCall w (disk.Write node name bytes) = text_of w name ≡ Some bytes
IsRightCall w (disk.Read node name want answer) = (bytes : List ℕ) × (text_of w name ≡ Some bytes) × (want ≡ sha256 bytes)
IsRightCall w (disk.Remove node name) = Unit {0}
IsRightCall w (disk.Wipe node) = Unit {0}

-- each call that was added is right
abbrev pub RightCalls : World → DiskTold → DiskTold → Type 0
RightCalls w old new = AddedSuch (IsRightCall w) old new

-- each call that was added is right; disks that are sound stay so, and where they tell, no read missed, and p
pub record RightWork {D : Type 0} (g : Disks D) (w : World) (old new : D) (p : Type 0) : Type 0 where
  pub right : OnTold (RightCalls w) (g.told old) (g.told new)
  pub sound : g.sound old → g.sound new
  pub unmissed : g.sound old → IsSome (g.told old) → g.misses new ≡ g.misses old
  pub also : g.sound old → IsSome (g.told old) → p
