-- Inputs of an attempt that were read, file after file, whichever reads missed.
use Rattle.std.specs.Prelude.{◌≡◌, ℕ, Bool, true, false, List, [], ◌∷◌, ◌++◌, Option, None, Some, IsSome, map}
use Rattle.std.specs.List.{AllByRecursion, filter}
use Rattle.hal_base.specs.declared.record.Record.{Record}
use Rattle.hal_base.specs.declared.shape.Shape.{Shape}
use Rattle.hal_outside.specs.DiskCalls as disk
use Rattle.hal_outside.specs.DiskTold.{DiskTold}
use Rattle.name_values.specs.Values.{World}
use Rattle.node_files.specs.declared.files.FileRef.{FileRef}
use Rattle.node_names.specs.declared.name.Name.{Name}
use Rattle.run_model.specs.Plans as why
use Rattle.run_model.specs.Plans.{Plan, gives, refuses}
use Rattle.run_model.specs.Reading.{ReadSoFar, Reading, read_files, reading, starved}
use Rattle.valid_copies.specs.Calls.{Added, Begun, Leads}
use Rattle.valid_copies.specs.Files.{FileRead, ReadsText, call_of}
use Rattle.valid_copies.specs.Inputs.{calls_of, counted_files, files_of, input_plan, rows_in}
use Rattle.std.specs.declared.alloc.Global.{Global}
use Rattle.std.specs.declared.vec.Vec.{Vec}
use Rattle.valid_copies.specs.Readings.{StandsFor}
use Rattle.valid_copies.specs.Stands.{Stands}
use Rattle.copy_reads.specs.Books.{IsOf, with_books}
use Rattle.copy_reads.specs.Needs.{Goes, IsFileFor}
use Rattle.copy_reads.specs.declared.books.Books.{Books}
use Rattle.copy_reads.specs.declared.fault.ReadFault.{ReadFault}
use Rattle.copy_reads.specs.declared.fault.ReadFault.TheVariants.{Device, Misses, Memory}

-- ---- calls that were answered

-- the answer is the file
abbrev pub is_same : disk.Answer → Bool
is_same (disk.Same bytes) = true
is_same disk.Gone = false
is_same disk.Other = false

-- the call is a read that was answered with the file
abbrev pub is_answered : disk.Call → Bool
is_answered (disk.Write node name bytes) = false
is_answered (disk.Read node name want answer) = is_same answer
is_answered (disk.Remove node name) = false
is_answered (disk.Wipe node) = false

-- ---- files that were read

-- the file that was read for a need, and its records
pub record IsReadFor (shape : Shape) (part : ℕ) (name : Name) (it : FileRead) : Type 0 where
  pub named : IsFileFor name it.file.name
  pub stands : StandsFor shape it.file.name it.bytes part it.rows

-- one file was read for each need, in order
abbrev pub AreReadFor : Shape → ℕ → List Name → List FileRead → Type 0
AreReadFor shape part [] [] = Unit {0}
AreReadFor shape part [] (it ∷ reads) = ⊥
AreReadFor shape part (name ∷ names) [] = ⊥
AreReadFor shape part (name ∷ names) (it ∷ reads) = IsReadFor shape part name it × AreReadFor shape part names reads

-- what an attempt has read, with these files more, once the cluster has these books
abbrev pub read_by : ℕ → List FileRef → Books → Reading → Reading
read_by own files books r = record (counted_files own files r) { cluster = with_books books r.cluster }

-- P of the plan to read files, from any reading whose cluster has these books
abbrev pub OfFiles : (Reading → Plan ReadSoFar → Type 0) → Books → ℕ → List Name → Type 0
OfFiles P books own names = (r : Reading) → IsOf books r.cluster → P r (read_files own names (reading r))

-- the file that was read
abbrev pub file_of : FileRead → FileRef
file_of it = it.file

-- these files were read for these needs, by the calls that were answered, and the machine comes to the same
pub record FilesRead (shape : Shape) (shows : Type 0) (own part : ℕ) (names : List Name) (old new : Books) (before after : Option DiskTold) (reads : List FileRead) : Type 0 where
  pub each : AreReadFor shape part names reads
  pub calls : List disk.Call
  pub added : Added before calls after
  pub answers : filter is_answered calls ≡ map call_of reads
  pub leads : OfFiles (λ r plan. Leads plan calls (gives (reading (read_by own (map file_of reads) new r)))) old own names
  pub texts : shows → IsSome before → (w : World) → Stands w old.table.copies before → AllByRecursion (ReadsText w) reads

-- all files were read: these are added to others, and these are their records
pub record AllFilesRead (shape : Shape) (shows : Type 0) (own part : ℕ) (names : List Name) (old new : Books) (before after : Option DiskTold) (files more : List FileRef) (lists : List (List Record)) : Type 0 where
  pub reads : List FileRead
  pub read : FilesRead shape shows own part names old new before after reads
  pub files_are : more ≡ files ++ map file_of reads
  pub lists_are : lists ≡ map (λ (it : FileRead). it.rows) reads

-- all files were read, or of one no copy is left
abbrev pub FilesOrStarved : Shape → Type 0 → ℕ → ℕ → List Name → Books → Books → Option DiskTold → Option DiskTold → List FileRef → List FileRef → Option (List (List Record)) → Type 0
FilesOrStarved shape shows own part names old new before after files more None = OfFiles (λ r plan. Goes plan before after (gives (starved (with_books new r.cluster)))) old own names
FilesOrStarved shape shows own part names old new before after files more (Some lists) = AllFilesRead shape shows own part names old new before after files more lists

-- what the plan was stopped by
abbrev pub FilesStopped : ℕ → List Name → Books → Books → Option DiskTold → Option DiskTold → ReadFault → Type 0
FilesStopped own names old new before after (Device device) = OfFiles (λ r plan. Begun plan before after) old own names
FilesStopped own names old new before after Misses = OfFiles (λ r plan. Goes plan before after (refuses (with_books new r.cluster) why.Misses)) old own names
FilesStopped own names old new before after Memory = OfFiles (λ r plan. Begun plan before after) old own names

-- ---- inputs

-- P of the plan to read inputs, from any reading whose cluster has these books
abbrev pub OfInputs : (Reading → Plan ReadSoFar → Type 0) → Books → ℕ → List (List Name) → Type 0
OfInputs P books own inputs = (r : Reading) → IsOf books r.cluster → P r (input_plan own inputs r)

-- for each input one file was read for each of its needs, in order
abbrev pub EachReadFor : Shape → ℕ → List (List Name) → List (List FileRead) → Type 0
EachReadFor shape part [] [] = Unit {0}
EachReadFor shape part [] (reads ∷ more) = ⊥
EachReadFor shape part (names ∷ inputs) [] = ⊥
EachReadFor shape part (names ∷ inputs) (reads ∷ more) = AreReadFor shape part names reads × EachReadFor shape part inputs more

-- all inputs were read, by the calls that were answered, and the machine comes to the same: these files are added to others, and
-- these are the records of each, by inputs
pub record AllInputsRead (shape : Shape) (shows : Type 0) (own part : ℕ) (inputs : List (List Name)) (old new : Books) (before after : Option DiskTold) (files more : List FileRef) (lists : List (List (List Record))) : Type 0 where
  pub reads : List (List FileRead)
  pub each : EachReadFor shape part inputs reads
  pub files_are : more ≡ files ++ files_of reads
  pub lists_are : lists ≡ rows_in reads
  pub calls : List disk.Call
  pub added : Added before calls after
  pub answers : filter is_answered calls ≡ calls_of reads
  pub leads : OfInputs (λ r plan. Leads plan calls (gives (reading (read_by own (files_of reads) new r)))) old own inputs
  pub texts : shows → IsSome before → (w : World) → Stands w old.table.copies before → AllByRecursion (AllByRecursion (ReadsText w)) reads

-- all inputs were read, or of one need no copy is left
abbrev pub InputsOrStarved : Shape → Type 0 → ℕ → ℕ → List (List Name) → Books → Books → Option DiskTold → Option DiskTold → List FileRef → List FileRef → Option (Vec (List (List Record)) Global) → Type 0
InputsOrStarved shape shows own part inputs old new before after files more None = OfInputs (λ r plan. Goes plan before after (gives (starved (with_books new r.cluster)))) old own inputs
InputsOrStarved shape shows own part inputs old new before after files more (Some lists) = AllInputsRead shape shows own part inputs old new before after files more lists.items

-- what the plan was stopped by
abbrev pub InputsStopped : ℕ → List (List Name) → Books → Books → Option DiskTold → Option DiskTold → ReadFault → Type 0
InputsStopped own inputs old new before after (Device device) = OfInputs (λ r plan. Begun plan before after) old own inputs
InputsStopped own inputs old new before after Misses = OfInputs (λ r plan. Goes plan before after (refuses (with_books new r.cluster) why.Misses)) old own inputs
InputsStopped own inputs old new before after Memory = OfInputs (λ r plan. Begun plan before after) old own inputs
