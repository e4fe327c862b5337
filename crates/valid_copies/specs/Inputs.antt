-- Inputs of an attempt: lists of files that are read, one after another.
use Rattle.std.specs.Prelude.{◌≡◌, ℕ, List, [], ◌∷◌, ◌++◌, Option, None, Some, IsSome, map}
use Rattle.std.specs.List.{AllByRecursion, flat_map}
use Rattle.std.specs.declared.alloc.Global.{Global}
use Rattle.std.specs.declared.vec.Vec.{Vec}
use Rattle.hal_base.specs.declared.record.Record.{Record}
use Rattle.node_names.specs.declared.name.Name.{Name}
use Rattle.hal_outside.specs.DiskCalls as disk
use Rattle.hal_outside.specs.DiskTold.{DiskTold}
use Rattle.node_files.specs.declared.files.FileRef.{FileRef}
use Rattle.run_model.specs.Needs.{input}
use Rattle.run_model.specs.Plans.{Plan, gives}
use Rattle.run_model.specs.Reading.{ReadSoFar, Reading, counted, nothing_read, read_inputs, reading, starved}
use Rattle.run_model.specs.State.{PlainCluster}
use Rattle.name_values.specs.Values.{World}
use Rattle.valid_copies.specs.Calls.{Added, Begun, Follows, MissedIn}
use Rattle.valid_copies.specs.Files.{AreRead, Desk, FileRead, ReadsText, Sees, call_of, try_of}
use Rattle.valid_copies.specs.Stands.{Stands}
use Rattle.valid_copies.specs.declared.fault.WorkFault.{WorkFault}
use Rattle.valid_copies.specs.declared.fault.WorkFault.TheVariants.{Device, Missed, Memory}

-- the names of files that make each input
abbrev pub names_in : List (Vec Name Global) → List (List Name)
names_in inputs = map (λ (names : Vec Name Global). names.items) inputs

-- the needs of each input were read in order, each by one file
abbrev pub EachRead : Desk → List (List Name) → List (List FileRead) → Type 0
EachRead desk [] [] = Unit {0}
EachRead desk [] (reads ∷ more) = ⊥
EachRead desk (names ∷ inputs) [] = ⊥
EachRead desk (names ∷ inputs) (reads ∷ more) = AreRead desk names reads × EachRead desk inputs more

-- the files that were read, in order
abbrev pub files_of : List (List FileRead) → List FileRef
files_of [] = []
files_of (reads ∷ more) = map (λ (it : FileRead). it.file) reads ++ files_of more

-- the calls by which they were read, in order
abbrev pub calls_of : List (List FileRead) → List disk.Call
calls_of reads = flat_map (map call_of) reads

-- the records of each file, by inputs
abbrev pub rows_in : List (List FileRead) → List (List (List Record))
rows_in reads = map (map (λ (it : FileRead). it.rows)) reads

-- what an attempt has read, with these files more
abbrev pub counted_files : ℕ → List FileRef → Reading → Reading
counted_files own [] r = r
counted_files own (file ∷ files) r = counted_files own files (counted own (try_of file) r.cluster r)

-- the plan to read these inputs, for which no cache stands
abbrev pub input_plan : ℕ → List (List Name) → Reading → Plan ReadSoFar
input_plan own inputs r = read_inputs own (map (input None) inputs) (reading r)

-- P of the plan to read these inputs, from any cluster that the desk sees
abbrev pub OfPlan : (PlainCluster → Plan ReadSoFar → Type 0) → Desk → List (List Name) → Type 0
OfPlan P desk inputs = (c : PlainCluster) → Sees desk.table c → P c (input_plan desk.own inputs (nothing_read c))

-- all inputs were read: these files, which are added to others, and these records, by one call for each file; the calls
-- follow the plan; where the disks show their damage and the copies are valid, texts were read
pub record InputsRead (desk : Desk) (shows : Type 0) (before : Option DiskTold) (inputs : List (List Name)) (old new : List FileRef) (after : Option DiskTold) (lists : List (List (List Record))) : Type 0 where
  pub reads : List (List FileRead)
  pub each : EachRead desk inputs reads
  pub files : new ≡ old ++ files_of reads
  pub rows : lists ≡ rows_in reads
  pub added : Added before (calls_of reads) after
  pub texts : shows → IsSome before → (w : World) → Stands w desk.table.copies before → AllByRecursion (AllByRecursion (ReadsText w)) reads
  pub follows : OfPlan (λ c plan. Follows plan before after (gives (reading (counted_files desk.own (files_of reads) (nothing_read c))))) desk inputs

-- all inputs were read, or the attempt is starved
abbrev pub InputsOrStarved : Desk → Type 0 → Option DiskTold → List (List Name) → List FileRef → List FileRef → Option DiskTold → Option (Vec (List (List Record)) Global) → Type 0
InputsOrStarved desk shows before inputs old new after None = OfPlan (λ c plan. Follows plan before after (gives (starved c))) desk inputs
InputsOrStarved desk shows before inputs old new after (Some lists) = InputsRead desk shows before inputs old new after lists.items

-- after a miss the last call missed, and no other; after other faults the plan was begun
abbrev pub InputsStopped : Desk → Option DiskTold → List (List Name) → Option DiskTold → WorkFault → Type 0
InputsStopped desk before inputs after (Device device) = OfPlan (λ c plan. Begun plan before after) desk inputs
InputsStopped desk before inputs after Missed = OfPlan (λ c plan. MissedIn plan before after) desk inputs
InputsStopped desk before inputs after Memory = OfPlan (λ c plan. Begun plan before after) desk inputs
