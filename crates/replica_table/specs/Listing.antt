-- The files of copies.
use Rattle.std.specs.Prelude.{ℕ, ◌&&◌, Bool, List, map}
use Rattle.std.specs.List.{filter}
use Rattle.node_names.specs.declared.name.Name.{Name}
use Rattle.replica_table.specs.Copies.{Copy}
use Rattle.replica_table.specs.Sets.{among}
use Rattle.replica_table.specs.declared.file_on.FileOn.{FileOn}

-- the file of a name on a node
abbrev pub file_on : Name → ℕ → FileOn
file_on name node = record { name = name; node = node }

-- the copies on some nodes of the names that pass a test
abbrev pub those : (Name → Bool) → List ℕ → List Copy → List Copy
those test nodes copies = filter (λ copy. test copy.name && among copy.node nodes) copies

-- the files of which these are the copies
abbrev pub files_of : List Copy → List FileOn
files_of copies = map (λ (copy : Copy). file_on copy.name copy.node) copies
