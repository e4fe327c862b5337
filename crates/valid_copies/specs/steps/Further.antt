-- A file that goes to further nodes.
use Rattle.std.specs.Prelude.{ℕ, Bool, ◌-◌, ◌&&◌, not, List, take}
use Rattle.std.specs.List.{filter, range_with_len}
use Rattle.node_names.specs.declared.name.Name.{Name}
use Rattle.replica_table.specs.Sets.{among}
use Rattle.valid_copies.specs.Writes.{FileWrite, writes_at}

-- a file, the nodes that are up, and those of them that hold it
pub record Further : Type 0 where
  pub name : Name
  pub bytes : List ℕ
  pub up : List ℕ
  pub holders : List ℕ

-- a node may get the file: it is up, and does not hold it
abbrev pub may_get : List ℕ → List ℕ → ℕ → Bool
may_get up holders n = among n up && not (among n holders)

-- of the nodes from one on and below another, those that may get the file, and no more than so many
abbrev pub nodes_between : Further → ℕ → ℕ → ℕ → List ℕ
nodes_between it from to most = take most (filter (may_get it.up it.holders) (range_with_len from (to - from)))

abbrev pub writes_between : Further → ℕ → ℕ → ℕ → List FileWrite
writes_between it from to most = writes_at (nodes_between it from to most) it.name it.bytes
