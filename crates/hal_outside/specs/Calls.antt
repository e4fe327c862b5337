-- What calls on files and on a sink leave, over the ghost members of each as one thing.
use Rattle.std.specs.Prelude.{◌≡◌, ◌≤◌, ◌++◌, List, ℕ, Some}
use Rattle.std.specs.Option.{option_map}
use Rattle.hal_outside.specs.declared.files.Files.{Ghosts as Files}
use Rattle.hal_outside.specs.declared.sink.Sink.{Ghosts as Sink}
use Rattle.hal_outside.specs.Told.{FileMap, Rose, AfterFailedAppend}
pub use Rattle.hal_outside.specs.Told.{OnTold}

-- a device failed a call on files
abbrev pub FaultsRose : {F : Type 0} → Files F → F → F → Type 0
FaultsRose g old new = Rose (g.faults old) (g.faults new)

-- a read found no file
abbrev pub AbsentsRose : {F : Type 0} → Files F → F → F → Type 0
AbsentsRose g old new = Rose (g.absents old) (g.absents new)

-- neither count of the files fell
abbrev pub CountsStay : {F : Type 0} → Files F → F → F → Type 0
CountsStay g old new = (g.faults old ≤ g.faults new) × (g.absents old ≤ g.absents new)

-- no file was changed, and neither count fell
abbrev pub OnlyReads : {F : Type 0} → Files F → F → F → Type 0
OnlyReads g old new = CountsStay g old new × (g.told new ≡ g.told old)

-- the files tell that they are these
abbrev pub Tells : {F : Type 0} → Files F → F → FileMap → Type 0
Tells g files told = g.told files ≡ Some told

-- where they tell, the files were changed so
abbrev pub Changes : {F : Type 0} → Files F → (FileMap → FileMap → Type 0) → F → F → Type 0
Changes g P old new = OnTold P (g.told old) (g.told new)

-- the device of a sink failed a write
abbrev pub WritesFailed : {O : Type 0} → Sink O → O → O → Type 0
WritesFailed h old new = Rose (h.faults old) (h.faults new)

-- where it tells, the sink has gained these bytes
abbrev pub Gains : {O : Type 0} → Sink O → O → List ℕ → O → Type 0
Gains h old bytes new = h.told new ≡ option_map (λ held. held ++ bytes) (h.told old)

-- where it tells, the sink has gained a prefix of these bytes
abbrev pub GainsPrefix : {O : Type 0} → Sink O → O → List ℕ → O → Type 0
GainsPrefix h old bytes new = AfterFailedAppend (h.told old) bytes (h.told new)
