-- What disks in memory tell after a call.
use Rattle.std.proofs.Common.{◌≡◌, ℕ, List, ◌∷◌, refl, inl, inr}
use Rattle.std.specs.Prelude.{Result, Ok, Err, OnErr}
use Rattle.node_names.specs.declared.name.Name.{Name}
use Rattle.hal_outside.specs.DiskFiles.{DiskMap}
use Rattle.hal_outside.specs.DiskCalls.{Call, Write, Read, Remove, Wipe, after_call}
use Rattle.hal_outside.specs.DiskTold.{Done, IsTaken, NotDone}
use Rattle.hal_outside.specs.DiskSteps.{Step, called, mem_told, now_after, put_after, script_told}
use Rattle.hal_outside.proofs.DiskMaps.{others_written, removed_gone, wiped_gone}

-- what a call takes away is gone
taken : (call : Call) (files : DiskMap) → IsTaken call (after_call call files)
taken (Write node name bytes) files = tt
taken (Read node name want answer) files = tt
taken (Remove node name) files = removed_gone files node name
taken (Wipe node) files = λ name. wiped_gone files node name

-- a call that was added is done
pub mem_done : (call : Call) (steps new : List Step) → new ≡ called call ∷ steps → Done call (mem_told steps) (mem_told new)
mem_done call steps new e = rw e (record { put = refl; taken = taken call (now_after steps); calls = refl })

pub script_done : (call : Call) (steps new : List Step) → new ≡ called call ∷ steps → Done call (script_told steps) (script_told new)
script_done call steps new e = rw e (record { put = refl; taken = taken call (now_after steps); calls = refl })

-- a call that was not added is not done
pub mem_not_done : (call : Call) (steps new : List Step) → new ≡ steps → NotDone call (mem_told steps) (mem_told new)
mem_not_done call steps new e = rw e (record { others = refl; calls = inl refl })

pub script_not_done : (call : Call) (steps new : List Step) → new ≡ steps → NotDone call (script_told steps) (script_told new)
script_not_done call steps new e = rw e (record { others = refl; calls = inl refl })

-- nor is a write that was added and failed behind that
pub script_write_failed : (node : ℕ) (name : Name) (bytes : List ℕ) (steps new : List Step) → new ≡ called (Write node name bytes) ∷ steps → NotDone (Write node name bytes) (script_told steps) (script_told new)
script_write_failed node name bytes steps new e = rw e (record { others = others_written (put_after steps) node name bytes; calls = inr refl })

-- what holds in any case holds where a call failed
pub on_failure : {T E : Type 0} (result : Result T E) (P : Type 0) → P → OnErr result P
on_failure (Ok value) P p = tt
on_failure (Err error) P p = p
