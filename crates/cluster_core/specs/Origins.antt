-- Of what the writes of a cluster, the values of its tests and the parts at its end are made: of what its own reads answered.
use Rattle.std.specs.Prelude.{◌≡◌, ◌⊎◌, ℕ, List, [], ◌∷◌, ◌++◌, Option, Some, length, map, slice_get}
use Rattle.std.specs.List.{AllByRecursion, flat_map}
use Rattle.hal_base.specs.Meaning.{Meaning}
use Rattle.hal_base.specs.declared.record.Record.{Record}
use Rattle.hal_base.specs.declared.shape.Shape.{Shape}
use Rattle.hal_outside.specs.DiskCalls as disk
use Rattle.hal_outside.specs.DiskCalls.{Answer, Gone, Other, Same}
use Rattle.hal_outside.specs.DiskTold.{DiskTold}
use Rattle.hal_outside.specs.Told.{OnTold}
use Rattle.loop_scheduler.specs.Reads.{files_of}
use Rattle.node_names.specs.declared.name.Name.{Name}
use Rattle.node_names.specs.declared.task.Task.{Task}
use Rattle.run_laws.specs.States.{IsNow}
use Rattle.task_values.specs.Reads.{part_in}
use Rattle.valid_copies.specs.Calls.{AddedSuch, CallsHave}
use Rattle.valid_copies.specs.LastWrites.{IsWriteOf, WritesNothing}
use Rattle.valid_copies.specs.Readings.{StandsFor}
use Rattle.cluster_core.specs.Outputs.{IsMade}
use Rattle.cluster_core.specs.declared.output.Output.{Output}
use Rattle.cluster_core.specs.declared.output.Output.TheVariants.{File, Value}

-- ---- what reads answered

-- a file that a read was answered with
pub record Answered : Type 0 where
  pub name : Name
  pub bytes : List ℕ

-- the file of an answer, if it is one
abbrev pub file_in : Name → Answer → List Answered
file_in name (Same bytes) = record { name = name; bytes = bytes } ∷ []
file_in name Gone = []
file_in name Other = []

-- the file that a call was answered with, if it is a read
abbrev pub answer_to : disk.Call → List Answered
answer_to (disk.Write node name bytes) = []
answer_to (disk.Read node name want answer) = file_in name answer
answer_to (disk.Remove node name) = []
answer_to (disk.Wipe node) = []

-- the files that these calls were answered with, in order
abbrev pub answers_to : List disk.Call → List Answered
answers_to calls = flat_map answer_to calls

-- the lists for which files stand, in order, of spills the sections of the part
abbrev pub AreListsOf : Shape → ℕ → List Answered → List (List Record) → Type 0
AreListsOf shape part [] [] = Unit {0}
AreListsOf shape part [] (rows ∷ lists) = ⊥
AreListsOf shape part (it ∷ files) [] = ⊥
AreListsOf shape part (it ∷ files) (rows ∷ lists) = StandsFor shape it.name it.bytes part rows × AreListsOf shape part files lists

-- ---- what is made of them

-- the output of a task, over the lists for which the answers to these reads stand: for each of its inputs one list for each file
pub record IsMadeOfReads (m : Meaning) (shape : Shape) (task : Task) (reads : List disk.Call) (output : Output) : Type 0 where
  pub lists : List (List (List Record))
  pub by_inputs : map length lists ≡ map length (files_of shape task)
  pub stand : AreListsOf shape (part_in task) (answers_to reads) (flat_map (λ files. files) lists)
  pub made : IsMade m shape task lists output

-- the call writes the bytes of the output
abbrev pub WritesOutput : Output → disk.Call → Type 0
WritesOutput (File name bytes) call = IsWriteOf name bytes.items call
WritesOutput (Value part value) call = ⊥

-- the output is this value of the test of this part
abbrev pub IsValue : ℕ → ℕ → Output → Type 0
IsValue p value (File name bytes) = ⊥
IsValue p value (Value part made) = (part ≡ p) × (made ≡ value)

-- no value of a test is new
abbrev pub NoneNew : List (Option ℕ) → List (Option ℕ) → Type 0
NoneNew old new = (p value : ℕ) → slice_get new p ≡ Some (Some value) → slice_get old p ≡ Some (Some value)

-- no value of a test is new but that of the output
abbrev pub NoneNewBut : Output → List (Option ℕ) → List (Option ℕ) → Type 0
NoneNewBut output old new = (p value : ℕ) → slice_get new p ≡ Some (Some value) → (slice_get old p ≡ Some (Some value)) ⊎ IsValue p value output

-- ---- what a cluster makes in a turn

-- nothing was written, and no value is new
pub record MadeNothing (values values' : List (Option ℕ)) (old new : DiskTold) : Type 0 where
  pub calls : AddedSuch WritesNothing old new
  pub known : NoneNew values values'

-- an attempt at a task of this round or, but for tests, an earlier one read its inputs; what was written behind its reads, and
-- what value is new, is its output, made of what they answered
pub record MadeOutput (m : Meaning) (shape : Shape) (round : ℕ) (values values' : List (Option ℕ)) (old new : DiskTold) : Type 0 where
  pub task : Task
  pub now : IsNow round task
  pub first : List disk.Call
  pub reads : List disk.Call
  pub writes : List disk.Call
  pub output : Output
  pub added : new.calls ≡ old.calls ++ (first ++ (reads ++ writes))
  pub nothing : AllByRecursion WritesNothing first
  pub made : IsMadeOfReads m shape task reads output
  pub written : AllByRecursion (WritesOutput output) writes
  pub known : NoneNewBut output values values'

-- where the disks tell: nothing was made, or an output of what its reads answered
abbrev pub MadeOfReads : Meaning → Shape → ℕ → List (Option ℕ) → List (Option ℕ) → Option DiskTold → Option DiskTold → Type 0
MadeOfReads m shape round values values' before after = OnTold (λ old new. MadeNothing values values' old new ⊎ MadeOutput m shape round values values' old new) before after

-- the output of a task over these lists is made: what was written is its bytes, and what value is new is its value
pub record Completed (m : Meaning) (shape : Shape) (task : Task) (lists : List (List (List Record))) (values values' : List (Option ℕ)) (before after : Option DiskTold) : Type 0 where
  pub output : Output
  pub made : IsMade m shape task lists output
  pub written : CallsHave (WritesOutput output) before after
  pub known : NoneNewBut output values values'

-- nothing was done, or the output is made
abbrev pub CompletedOrNot : Meaning → Shape → Task → List (List (List Record)) → List (Option ℕ) → List (Option ℕ) → Option DiskTold → Option DiskTold → Type 0
CompletedOrNot m shape task lists values values' before after = ((after ≡ before) × (values' ≡ values)) ⊎ Completed m shape task lists values values' before after

-- calls were added, and the lists are those for which their answers stand
pub record AddedFor (shape : Shape) (lists : List (List Record)) (old new : DiskTold) : Type 0 where
  pub calls : List disk.Call
  pub added : new.calls ≡ old.calls ++ calls
  pub stand : AreListsOf shape 0 (answers_to calls) lists

-- where the disks tell, the lists are those for which the answers to the calls that were added stand
abbrev pub AreAnswers : Shape → List (List Record) → Option DiskTold → Option DiskTold → Type 0
AreAnswers shape lists before after = OnTold (AddedFor shape lists) before after
