-- Files that were read, one need after another.
use Rattle.std.specs.Prelude.{◌≡◌, ℕ, true, List, [], ◌∷◌, ◌++◌, Option, None, Some, IsSome, map, slice_get}
use Rattle.std.specs.List.{AllByRecursion}
use Rattle.hal_base.specs.declared.record.Record.{Record}
use Rattle.hal_base.specs.declared.shape.Shape.{Shape}
use Rattle.node_names.specs.declared.name.Name.{Name}
use Rattle.hal_outside.specs.DiskCalls as disk
use Rattle.hal_outside.specs.DiskTold.{DiskTold}
use Rattle.node_files.specs.declared.files.FileRef.{FileRef}
use Rattle.replica_table.specs.Copies.{Replicas, held, holders}
use Rattle.run_model.specs.Reading.{Try, tries_for, try_at}
use Rattle.run_model.specs.State.{PlainCluster, bare}
use Rattle.name_values.specs.Values.{World}
use Rattle.valid_copies.specs.Readings.{StandsFor}
use Rattle.valid_copies.specs.Stands.{Stands}
use Rattle.valid_copies.specs.Texts.{text_of}
use Rattle.valid_copies.specs.Calls.{Added, made_of}
use Rattle.valid_copies.specs.declared.fault.WorkFault.{WorkFault}
use Rattle.valid_copies.specs.declared.fault.WorkFault.TheVariants.{Device, Missed, Memory}
use Rattle.valid_copies.specs.declared.reading.Found.{Found}

-- the cluster has the copies and the up nodes of this table
pub record Sees (table : Replicas) (c : PlainCluster) : Type 0 where
  pub copies : c.copies ≡ bare table.copies
  pub up : c.up ≡ table.up

-- where an attempt reads: the shape, the table, its own node, and the part of which it reads sections
pub record Desk : Type 0 where
  pub shape : Shape
  pub table : Replicas
  pub own : ℕ
  pub part : ℕ

-- a file that was read: its bytes, and the records for which they stand
pub record FileRead : Type 0 where
  pub file : FileRef
  pub bytes : List ℕ
  pub rows : List Record

-- its one call
abbrev pub call_of : FileRead → disk.Call
call_of it = disk.Read it.file.node it.file.name it.file.digest.0 (disk.Same it.bytes)

-- a file, as a plan tries it
abbrev pub try_of : FileRef → Try
try_of file = try_at file.name file.node

-- the first file that is tried for a need, or none
abbrev pub IsFirstTry : Desk → Name → Option Try → Type 0
IsFirstTry desk name first = (c : PlainCluster) → Sees desk.table c → slice_get (tries_for c desk.own name) 0 ≡ first

-- the file of a name on the lowest node that is up and holds it
pub record IsUpFile (table : Replicas) (name : Name) (file : FileRef) : Type 0 where
  pub named : file.name ≡ name
  pub lowest : slice_get (holders name table) 0 ≡ Some file.node
  pub kept : held name file.node table.copies ≡ Some file.digest

-- a need was read: by the first file that is tried for it, of which the digest is kept
pub record IsRead (desk : Desk) (name : Name) (it : FileRead) : Type 0 where
  pub first : IsFirstTry desk name (Some (try_of it.file))
  pub kept : held it.file.name it.file.node desk.table.copies ≡ Some it.file.digest
  pub rows : StandsFor desk.shape it.file.name it.bytes desk.part it.rows

-- needs were read in order, each by one file
abbrev pub AreRead : Desk → List Name → List FileRead → Type 0
AreRead desk [] [] = Unit {0}
AreRead desk [] (it ∷ reads) = ⊥
AreRead desk (name ∷ names) [] = ⊥
AreRead desk (name ∷ names) (it ∷ reads) = IsRead desk name it × AreRead desk names reads

-- the bytes are the text of the file's name
abbrev pub ReadsText : World → FileRead → Type 0
ReadsText w it = text_of w it.file.name ≡ Some it.bytes

-- these needs were read, by these calls and no others; where the disks show their damage and the copies are valid, texts
-- were read
pub record Came (desk : Desk) (shows : Type 0) (before : Option DiskTold) (names : List Name) (reads : List FileRead) (after : Option DiskTold) : Type 0 where
  pub each : AreRead desk names reads
  pub added : Added before (map call_of reads) after
  pub texts : shows → IsSome before → (w : World) → Stands w desk.table.copies before → AllByRecursion (ReadsText w) reads

-- ---- reads that end before all needs are read

-- the first file that is tried for a need was asked for, with the digest that is kept of it
pub record IsAsked (desk : Desk) (name : Name) (call : disk.Call) : Type 0 where
  pub file : FileRef
  pub answer : disk.Answer
  pub is : call ≡ disk.Read file.node file.name file.digest.0 answer
  pub first : IsFirstTry desk name (Some (try_of file))
  pub kept : held file.name file.node desk.table.copies ≡ Some file.digest

-- the calls are none, or one for the next of these needs
abbrev pub IsNext : Desk → List Name → List disk.Call → Type 0
IsNext desk names [] = Unit {0}
IsNext desk [] (call ∷ calls) = ⊥
IsNext desk (name ∷ names) (call ∷ []) = IsAsked desk name call
IsNext desk (name ∷ names) (call ∷ next ∷ calls) = ⊥

-- some of the needs were read, in order, and of the next there was a call with L, or none
pub record Stopped (desk : Desk) (L : List disk.Call → Type 0) (before : Option DiskTold) (names : List Name) (after : Option DiskTold) : Type 0 where
  pub done : List Name
  pub more : List Name
  pub split : names ≡ done ++ more
  pub reads : List FileRead
  pub each : AreRead desk done reads
  pub last : List disk.Call
  pub next : IsNext desk more last
  pub has : L last
  pub added : Added before (map call_of reads ++ last) after

-- no matter which calls
abbrev pub Any : List disk.Call → Type 0
Any calls = Unit {0}

-- a call that missed
abbrev pub Misses : List disk.Call → Type 0
Misses [] = ⊥
Misses (call ∷ calls) = (made_of call).missed ≡ true

-- after a miss the last call missed; after other faults any call was the last
abbrev pub StoppedBy : Desk → Option DiskTold → List Name → Option DiskTold → WorkFault → Type 0
StoppedBy desk before names after (Device device) = Stopped desk Any before names after
StoppedBy desk before names after Missed = Stopped desk Misses before names after
StoppedBy desk before names after Memory = Stopped desk Any before names after

-- some of the needs were read, and of the next no file is left to try
pub record StarvedAt (desk : Desk) (shows : Type 0) (before : Option DiskTold) (names : List Name) (after : Option DiskTold) : Type 0 where
  pub done : List Name
  pub next : Name
  pub more : List Name
  pub split : names ≡ done ++ next ∷ more
  pub reads : List FileRead
  pub came : Came desk shows before done reads after
  pub none : IsFirstTry desk next None

-- ---- what readers answer

-- a need was read, or no file is left to try for it
abbrev pub FoundAt : Desk → Type 0 → Option DiskTold → Name → Option DiskTold → Option Found → Type 0
FoundAt desk shows before name after None = IsFirstTry desk name None × (after ≡ before)
FoundAt desk shows before name after (Some found) = (bytes : List ℕ) × Came desk shows before (name ∷ []) (record { file = found.file; bytes = bytes; rows = found.rows } ∷ []) after

-- all needs were read: these files, which are added to others, and these records
pub record AllRead (desk : Desk) (shows : Type 0) (before : Option DiskTold) (names : List Name) (old new : List FileRef) (after : Option DiskTold) (lists : List (List Record)) : Type 0 where
  pub reads : List FileRead
  pub came : Came desk shows before names reads after
  pub files : new ≡ old ++ map (λ (it : FileRead). it.file) reads
  pub rows : lists ≡ map (λ (it : FileRead). it.rows) reads

-- all needs were read, or the attempt is starved
abbrev pub ReadOrStarved : Desk → Type 0 → Option DiskTold → List Name → List FileRef → List FileRef → Option DiskTold → Option (List (List Record)) → Type 0
ReadOrStarved desk shows before names old new after None = StarvedAt desk shows before names after
ReadOrStarved desk shows before names old new after (Some lists) = AllRead desk shows before names old new after lists
