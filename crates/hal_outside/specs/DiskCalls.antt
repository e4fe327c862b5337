-- Calls on the disks of nodes.
use Rattle.std.specs.Prelude.{ℕ, List}
use Rattle.node_names.specs.declared.name.Name.{Name}
use Rattle.hal_outside.specs.declared.got.Got.{Got}
use Rattle.hal_outside.specs.declared.got.Got.TheVariants as got
use Rattle.hal_outside.specs.DiskFiles.{DiskMap, with_file, without_file, without_node}

-- what a read is answered: the bytes of the file, that there is none, or that it has another digest
pub data Answer : Type 0 where
  Same : List ℕ → Answer
  Gone : Answer
  Other : Answer

-- the answer, with its bytes as a list
abbrev pub answer_of : Got → Answer
answer_of (got.Same bytes) = Same bytes.items
answer_of got.Gone = Gone
answer_of got.Other = Other

-- a call with its node, its name if it has one, for a write its bytes, and for a read the wanted digest and the answer
pub data Call : Type 0 where
  Write : ℕ → Name → List ℕ → Call
  Read : ℕ → Name → List ℕ → Answer → Call
  Remove : ℕ → Name → Call
  Wipe : ℕ → Call

-- what a call that is done makes of the files
abbrev pub after_call : Call → DiskMap → DiskMap
after_call (Write node name bytes) files = with_file files node name bytes
after_call (Read node name want answer) files = files
after_call (Remove node name) files = without_file files node name
after_call (Wipe node) files = without_node files node

-- the files but those that a call is to change
abbrev pub beside : Call → DiskMap → DiskMap
beside (Write node name bytes) files = without_file files node name
beside (Read node name want answer) files = files
beside (Remove node name) files = without_file files node name
beside (Wipe node) files = without_node files node
