-- Files that were tried, until one was not missed, as the machine tries them.
use Rattle.std.specs.Prelude.{◌≡◌, ◌⊎◌, ℕ, true, List, [], ◌∷◌, ◌++◌, Option, None, Some, IsSome}
use Rattle.std.specs.List.{AllByRecursion}
use Rattle.std.specs.Option.{option_map}
use Rattle.hal_base.specs.declared.shape.Shape.{Shape}
use Rattle.hal_outside.specs.DiskCalls as disk
use Rattle.hal_outside.specs.DiskTold.{DiskTold}
use Rattle.name_values.specs.Values.{World}
use Rattle.node_files.specs.declared.files.FileRef.{FileRef}
use Rattle.node_names.specs.declared.digest.Digest.{Digest}
use Rattle.node_names.specs.declared.name.Name.{Name}
use Rattle.replica_table.specs.Copies.{held}
use Rattle.run_model.specs.Plans as why
use Rattle.run_model.specs.Plans.{Plan, gives, refuses}
use Rattle.run_model.specs.Reading.{Tried, Try, cache_of_block, read_first}
use Rattle.run_model.specs.State.{PlainCluster}
use Rattle.valid_copies.specs.Calls.{Added, Begun, Leads, made_of}
use Rattle.valid_copies.specs.Files.{try_of}
use Rattle.valid_copies.specs.Readings.{StandsFor}
use Rattle.valid_copies.specs.Stands.{Stands}
use Rattle.valid_copies.specs.Texts.{text_of}
use Rattle.copy_reads.specs.Books.{IsOf, with_books}
use Rattle.copy_reads.specs.Readers.{part_of, tries_by}
use Rattle.copy_reads.specs.Tried.{ask_for}
use Rattle.copy_reads.specs.declared.reader.Reader.{Reader}
use Rattle.copy_reads.specs.declared.books.Books.{Books}
use Rattle.copy_reads.specs.declared.fault.ReadFault.{ReadFault}
use Rattle.copy_reads.specs.declared.fault.ReadFault.TheVariants.{Device, Misses, Memory}
use Rattle.copy_reads.specs.declared.reading.Found.{Found}

-- calls were added that led from a plan to what is left of it, whichever of its reads missed
pub record Goes {A : Type 0} (plan : Plan A) (before after : Option DiskTold) (rest : Plan A) : Type 0 where
  pub calls : List disk.Call
  pub added : Added before calls after
  pub leads : Leads plan calls rest

-- what the tries for a need came to: the cluster with these books, and the file that was read, if one was
abbrev pub tried_by : Books → PlainCluster → Option FileRef → Tried
tried_by books c file = record { cluster = with_books books c; answered = option_map try_of file }

-- P of the plan to try files, from any cluster that has these books
abbrev pub OfTries : (PlainCluster → Plan Tried → Type 0) → Books → (PlainCluster → List Try) → Type 0
OfTries P books tries = (c : PlainCluster) → IsOf books c → P c (read_first (tries c) c)

-- the file, if one was found
abbrev pub file_found : Option Found → Option FileRef
file_found found = option_map (λ (it : Found). it.file) found

-- the call is a read that missed
abbrev pub IsMissed : disk.Call → Type 0
IsMissed call = (made_of call).missed ≡ true

-- the file is of this name, or of the cache that stands for it
abbrev pub IsFileFor : Name → Name → Type 0
IsFileFor name it = (it ≡ name) ⊎ (cache_of_block name ≡ it ∷ [])

-- the last of the calls read the file, of which these are the records, and those before it missed; where the disks show their damage
-- and the copies were valid, its bytes are the text of its name
pub record IsLastRead (shape : Shape) (part : ℕ) (shows : Type 0) (name : Name) (old : Books) (before : Option DiskTold) (calls : List disk.Call) (it : Found) : Type 0 where
  pub missed : List disk.Call
  pub all_missed : AllByRecursion IsMissed missed
  pub bytes : List ℕ
  pub last : calls ≡ missed ++ ask_for it.file (disk.Same bytes) ∷ []
  pub named : IsFileFor name it.file.name
  pub stands : StandsFor shape it.file.name bytes part it.rows
  pub text : shows → IsSome before → (w : World) → Stands w old.table.copies before → text_of w it.file.name ≡ Some bytes

-- a file was found by the last call, or all calls missed
abbrev pub FoundBy : Shape → ℕ → Type 0 → Name → Books → Option DiskTold → List disk.Call → Option Found → Type 0
FoundBy shape part shows name old before calls None = AllByRecursion IsMissed calls
FoundBy shape part shows name old before calls (Some it) = IsLastRead shape part shows name old before calls it

-- a need was read as the machine reads it, or no file is left to try
pub record NeedRead (shape : Shape) (shows : Type 0) (reader : Reader) (name : Name) (old new : Books) (before after : Option DiskTold) (found : Option Found) : Type 0 where
  pub calls : List disk.Call
  pub added : Added before calls after
  pub leads : OfTries (λ c plan. Leads plan calls (gives (tried_by new c (file_found found)))) old (tries_by reader name)
  pub by : FoundBy shape (part_of reader) shows name old before calls found

-- of each copy that is left the same digest is kept
abbrev pub FewerCopies : Books → Books → Type 0
FewerCopies old new = (name : Name) (node : ℕ) (digest : Digest) → held name node new.table.copies ≡ Some digest → held name node old.table.copies ≡ Some digest

-- what the plan was stopped by: the 1,000th miss refuses it; a device or want of memory leaves its first calls
abbrev pub TriesStopped : Books → Books → (PlainCluster → List Try) → Option DiskTold → Option DiskTold → ReadFault → Type 0
TriesStopped old new tries before after (Device device) = OfTries (λ c plan. Begun plan before after) old tries
TriesStopped old new tries before after Misses = OfTries (λ c plan. Goes plan before after (refuses (with_books new c) why.Misses)) old tries
TriesStopped old new tries before after Memory = OfTries (λ c plan. Begun plan before after) old tries
