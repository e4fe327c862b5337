-- Who reads, and what is tried for it.
use Rattle.std.specs.Prelude.{ℕ, ◌<◌, List}
use Rattle.node_names.specs.declared.name.Name.{Name}
use Rattle.run_model.specs.Advance.{part_tries}
use Rattle.run_model.specs.Reading.{Try, tries_for}
use Rattle.run_model.specs.State.{PlainCluster}
use Rattle.copy_reads.specs.declared.reader.Reader.{Reader}
use Rattle.copy_reads.specs.declared.reader.Reader.TheVariants.{Attempt, End}

-- the files that the machine tries for a need, in its order
abbrev pub tries_by : Reader → Name → PlainCluster → List Try
tries_by (Attempt node part) name c = tries_for c node name
tries_by End name c = part_tries c name

-- the part of which sections are read
abbrev pub part_of : Reader → ℕ
part_of (Attempt node part) = part
part_of End = 0

-- an attempt is on a node that there is
abbrev pub IsThere : ℕ → Reader → Type 0
IsThere nodes (Attempt node part) = node < nodes
IsThere nodes End = Unit {0}
