-- A file that was tried: it was read, or it was missed and its copy is struck.
use Rattle.std.specs.Prelude.{◌≡◌, ℕ, true, List, [], ◌∷◌, Option, None, Some, IsSome}
use Rattle.hal_base.specs.declared.record.Record.{Record}
use Rattle.hal_base.specs.declared.shape.Shape.{Shape}
use Rattle.hal_outside.specs.DiskCalls as disk
use Rattle.hal_outside.specs.DiskTold.{DiskTold}
use Rattle.node_files.specs.declared.files.FileRef.{FileRef}
use Rattle.valid_copies.specs.Calls.{Added, AddedAtMost, is_miss}
use Rattle.name_values.specs.Values.{World}
use Rattle.valid_copies.specs.Readings.{StandsFor}
use Rattle.valid_copies.specs.Stands.{Stands}
use Rattle.valid_copies.specs.Texts.{text_of}
use Rattle.copy_reads.specs.Books.{struck_in}
use Rattle.copy_reads.specs.declared.books.Books.{Books}
use Rattle.copy_reads.specs.declared.fault.ReadFault.{ReadFault}
use Rattle.copy_reads.specs.declared.fault.ReadFault.TheVariants.{Device, Misses, Memory}

-- the call by which a file is read, with its answer
abbrev pub ask_for : FileRef → disk.Answer → disk.Call
ask_for file answer = disk.Read file.node file.name file.digest.0 answer

-- it was missed, by one call, and its copy is struck
pub record MissedAs (file : FileRef) (old new : Books) (before after : Option DiskTold) : Type 0 where
  pub answer : disk.Answer
  pub missed : is_miss answer ≡ true
  pub added : Added before (ask_for file answer ∷ []) after
  pub struck : new ≡ struck_in file old

-- it was read by one call, and these are the records for which its bytes stand; where the disks show their damage and the copies
-- are valid, the bytes are the text of its name
pub record ReadAs (shape : Shape) (part : ℕ) (shows : Type 0) (file : FileRef) (rows : List Record) (old new : Books) (before after : Option DiskTold) : Type 0 where
  pub bytes : List ℕ
  pub added : Added before (ask_for file (disk.Same bytes) ∷ []) after
  pub stands : StandsFor shape file.name bytes part rows
  pub same : new ≡ old
  pub text : shows → IsSome before → (w : World) → Stands w old.table.copies before → text_of w file.name ≡ Some bytes

-- it was read, or missed
abbrev pub TriedAs : Shape → ℕ → Type 0 → FileRef → Books → Books → Option DiskTold → Option DiskTold → Option (List Record) → Type 0
TriedAs shape part shows file old new before after None = MissedAs file old new before after
TriedAs shape part shows file old new before after (Some rows) = ReadAs shape part shows file rows old new before after

-- one call was made for it, or none
pub record AskedAtMost (file : FileRef) (before after : Option DiskTold) : Type 0 where
  pub answer : disk.Answer
  pub asked : AddedAtMost before [] (ask_for file answer) after

-- it was missed, as one file too many; or the device failed, or memory was wanting
abbrev pub TriedInVain : FileRef → Books → Books → Option DiskTold → Option DiskTold → ReadFault → Type 0
TriedInVain file old new before after (Device device) = AskedAtMost file before after
TriedInVain file old new before after Misses = MissedAs file old new before after
TriedInVain file old new before after Memory = AskedAtMost file before after
