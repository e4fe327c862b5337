-- Files that are written, one after another, and their copies.
use Rattle.std.specs.Prelude.{◌≡◌, ℕ, List, [], ◌∷◌, ◌++◌, Option, map}
use Rattle.node_names.specs.declared.name.Name.{Name}
use Rattle.hal_outside.specs.DiskCalls as disk
use Rattle.hal_outside.specs.DiskTold.{DiskTold}
use Rattle.replica_table.specs.Copies.{Copy, Replicas, with_copy}
use Rattle.valid_copies.specs.Calls.{Added}
use Rattle.valid_copies.specs.Stands.{copy_of_bytes}

-- bytes that are written as the file of a name on a node
pub record FileWrite : Type 0 where
  pub node : ℕ
  pub name : Name
  pub bytes : List ℕ

-- these bytes are written as the file of a name on a node
abbrev pub write_at : ℕ → Name → List ℕ → FileWrite
write_at node name bytes = record { node = node; name = name; bytes = bytes }

-- the file is written to each of these nodes
abbrev pub writes_at : List ℕ → Name → List ℕ → List FileWrite
writes_at nodes name bytes = map (λ node. write_at node name bytes) nodes

-- its one call
abbrev pub write_of : FileWrite → disk.Call
write_of it = disk.Write it.node it.name it.bytes

-- the copies, once these files are written
abbrev pub copies_with : List FileWrite → List Copy → List Copy
copies_with [] copies = copies
copies_with (it ∷ writes) copies = copies_with writes (with_copy (copy_of_bytes it.name it.node it.bytes) copies)

-- the table, once these files are written
abbrev pub table_with : List FileWrite → Replicas → Replicas
table_with writes table = record table { copies = copies_with writes table.copies }

-- these files were written, by these calls and no others, and the table has their copies
pub record Wrote (before : Option DiskTold) (old : Replicas) (writes : List FileWrite) (new : Replicas) (after : Option DiskTold) : Type 0 where
  pub added : Added before (map write_of writes) after
  pub table : new ≡ table_with writes old

-- the calls are none, or one for the next of these writes
abbrev pub IsNextWrite : List FileWrite → List disk.Call → Type 0
IsNextWrite writes [] = Unit {0}
IsNextWrite [] (call ∷ calls) = ⊥
IsNextWrite (it ∷ writes) (call ∷ calls) = call ∷ calls ≡ write_of it ∷ []

-- some of the files were written, in order, and the table has their copies; of the next there was a call, or none
pub record WroteSome (before : Option DiskTold) (old : Replicas) (writes : List FileWrite) (new : Replicas) (after : Option DiskTold) : Type 0 where
  pub done : List FileWrite
  pub more : List FileWrite
  pub split : writes ≡ done ++ more
  pub last : List disk.Call
  pub next : IsNextWrite more last
  pub added : Added before (map write_of done ++ last) after
  pub table : new ≡ table_with done old
