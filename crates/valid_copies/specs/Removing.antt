-- Files of nodes that are removed, one after another.
use Rattle.std.specs.Prelude.{◌≡◌, ℕ, ◌==◌, ◌&&◌, false, not, Bool, List, [], ◌∷◌, ◌++◌, Option, map}
use Rattle.std.specs.List.{filter, list_any}
use Rattle.hal_base.specs.declared.shape.Shape.{Shape}
use Rattle.node_names.specs.declared.name.Name.{Name}
use Rattle.hal_outside.specs.DiskCalls as disk
use Rattle.hal_outside.specs.DiskFiles.{file_at}
use Rattle.hal_outside.specs.DiskTold.{DiskTold}
use Rattle.replica_table.specs.Copies.{Copy, is_name}
use Rattle.replica_table.specs.Sets.{among}
use Rattle.run_model.specs.Plans.{Plan, gives}
use Rattle.run_model.specs.Removals.{clear}
use Rattle.run_model.specs.State.{PlainCluster, Setup, bare, copy, with_copies}
use Rattle.run_model.specs.State.{Copy as Bare}
use Rattle.run_model.specs.Stays.{stays}
use Rattle.valid_copies.specs.Calls.{Added}
use Rattle.replica_table.specs.declared.file_on.FileOn.{FileOn}

-- the call that removes a file
abbrev pub removal_of : FileOn → disk.Call
removal_of it = disk.Remove it.node it.name

-- it is the file of this name on this node
abbrev pub is_on : ℕ → Name → FileOn → Bool
is_on node name it = is_name name it.name && node == it.node

-- the calls are none, or one for the next of these files
abbrev pub IsNextRemoval : List FileOn → List disk.Call → Type 0
IsNextRemoval files [] = Unit {0}
IsNextRemoval [] (call ∷ calls) = ⊥
IsNextRemoval (it ∷ files) (call ∷ calls) = call ∷ calls ≡ removal_of it ∷ []

-- some of the files were removed, in order; of the next there was a call, or none
pub record RemovedSome (before : Option DiskTold) (files : List FileOn) (after : Option DiskTold) : Type 0 where
  pub done : List FileOn
  pub more : List FileOn
  pub split : files ≡ done ++ more
  pub last : List disk.Call
  pub next : IsNextRemoval more last
  pub added : Added before (map removal_of done ++ last) after

-- all files but these were put as before
abbrev pub OthersKept : List FileOn → DiskTold → DiskTold → Type 0
OthersKept files old new = (node : ℕ) (name : Name) → list_any (is_on node name) files ≡ false → file_at new.put node name ≡ file_at old.put node name

-- ---- what does not stay

-- files, as the copies of a plan
abbrev pub as_copies : List FileOn → List Bare
as_copies files = map (λ (it : FileOn). copy it.name it.node) files

-- the name does not stay in the round
abbrev pub goes : Shape → ℕ → ℕ → Name → Bool
goes shape keep round name = not (stays shape keep round name)

-- the copies on these nodes that do not stay in the round
abbrev pub left_over : Shape → ℕ → ℕ → List ℕ → List Copy → List Bare
left_over shape keep round nodes copies = filter (λ (it : Bare). goes shape keep round it.name && among it.node nodes) (bare copies)

-- P of the plan that clears these nodes, and of what it gives, for any cluster of this round with these copies
abbrev pub OfClearing : (Plan PlainCluster → Plan PlainCluster → Type 0) → Shape → ℕ → ℕ → List ℕ → List Copy → List Copy → Type 0
OfClearing P shape keep round nodes old new =
    (setup : Setup) (c : PlainCluster) → setup.shape ≡ shape → setup.schedule.keep ≡ keep → c.round ≡ round → c.copies ≡ bare old → P (clear setup nodes c) (gives (with_copies (bare new) c))
