-- What disks tell of themselves, and what each call makes of it.
use Rattle.std.specs.Prelude.{◌≡◌, ◌≢◌, ◌⊎◌, ℕ, List, [], ◌∷◌, ◌++◌, Option, None, Some}
use Rattle.node_names.specs.declared.name.Name.{Name}
use Rattle.hal_outside.specs.DiskFiles.{DiskMap, file_at}
use Rattle.hal_outside.specs.DiskCalls.{Answer, Same, Gone, Other, Call, Write, Read, Remove, Wipe, after_call, beside}
use Rattle.sha2.specs.Sha256.{sha256}

-- what was last put under each file, what lies there now, and the calls so far
pub record DiskTold : Type 0 where
  pub put : DiskMap
  pub now : DiskMap
  pub calls : List Call

-- none of the files that a call takes away lies there
abbrev pub IsTaken : Call → DiskMap → Type 0
IsTaken (Write node name bytes) now = Unit {0}
IsTaken (Read node name want answer) now = Unit {0}
IsTaken (Remove node name) now = file_at now node name ≡ None
IsTaken (Wipe node) now = (name : Name) → file_at now node name ≡ None

-- a call is done: what was put is changed by it and by nothing else, what it takes away is gone, and it is the last of the calls
pub record Done (call : Call) (old new : DiskTold) : Type 0 where
  pub put : new.put ≡ after_call call old.put
  pub taken : IsTaken call new.now
  pub calls : new.calls ≡ old.calls ++ call ∷ []

-- a call failed: of the files that it names nothing is known, all others were put as before, and it is the last of the calls or none of them
pub record NotDone (call : Call) (old new : DiskTold) : Type 0 where
  pub others : beside call new.put ≡ beside call old.put
  pub calls : (new.calls ≡ old.calls) ⊎ (new.calls ≡ old.calls ++ call ∷ [])

-- what an answer says of the file that lies there, if there is one
abbrev pub IsAnswer : Option (List ℕ) → List ℕ → Answer → Type 0
IsAnswer file want (Same bytes) = file ≡ Some bytes
IsAnswer file want Gone = file ≡ None
IsAnswer file want Other = (bytes : List ℕ) × (file ≡ Some bytes) × (sha256 bytes ≢ want)

-- the bytes of an answer have the wanted digest
abbrev pub IsWanted : List ℕ → Answer → Type 0
IsWanted want (Same bytes) = sha256 bytes ≡ want
IsWanted want Gone = Unit {0}
IsWanted want Other = Unit {0}

-- p where the answer is not the file
abbrev pub OnMiss : Answer → Type 0 → Type 0
OnMiss (Same bytes) p = Unit {0}
OnMiss Gone p = p
OnMiss Other p = p

-- there is no file, or it has another digest
abbrev pub Lacks : Option (List ℕ) → List ℕ → Type 0
Lacks file want = (bytes : List ℕ) → file ≡ Some bytes → sha256 bytes ≢ want

-- a read failed: all files were put as before, and if it is the last of the calls, its answer is not the file only where p
pub record NotRead (node : ℕ) (name : Name) (want : List ℕ) (p : Type 0) (old new : DiskTold) : Type 0 where
  pub put : new.put ≡ old.put
  pub calls : (new.calls ≡ old.calls) ⊎ ((answer : Answer) × OnMiss answer p × (new.calls ≡ old.calls ++ Read node name want answer ∷ []))
