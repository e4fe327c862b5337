-- The file that is tried first for a need.
use Rattle.std.specs.Prelude.{ℕ, Option, None, Some, option_map, slice_get}
use Rattle.std.specs.Option.{option_and_then}
use Rattle.node_names.specs.declared.digest.Digest.{Digest}
use Rattle.node_names.specs.declared.name.Name.{Name}
use Rattle.node_names.specs.declared.name.Name.TheVariants.{Blk, Spill, Out, Ric, Mic, Roc}
use Rattle.node_files.specs.declared.files.FileRef.{FileRef}
use Rattle.replica_table.specs.Copies.{Replicas, held, holders}

abbrev pub file_at : ℕ → Name → Digest → FileRef
file_at node name digest = record { node = node; name = name; digest = digest }

-- the file of a name on a node, if it is there
abbrev pub held_file : Replicas → ℕ → Name → Option FileRef
held_file table node name = option_map (file_at node name) (held name node table.copies)

-- of a block, its cache on a node
abbrev pub kept_file : Replicas → ℕ → Name → Option FileRef
kept_file table node (Blk t b) = held_file table node (Mic t b)
kept_file table node (Spill i j s q) = None
kept_file table node (Out i j p) = None
kept_file table node (Ric j s p) = None
kept_file table node (Mic t b) = None
kept_file table node (Roc i p) = None

-- the file on the lowest node that is up and holds it
abbrev pub up_file : Replicas → Name → Option FileRef
up_file table name = option_and_then (λ node. held_file table node name) (slice_get (holders name table) 0)

abbrev pub or_else : {A : Type 0} → Option A → Option A → Option A
or_else None other = other
or_else (Some a) other = Some a

abbrev pub first_file : Replicas → ℕ → Name → Option FileRef
first_file table own name = or_else (held_file table own name) (or_else (kept_file table own name) (up_file table name))
