use Rattle.std.proofs.Common.{◌≡◌, ◌++◌, drop}
use Rattle.replica_table.specs.Sets.{members}
use Rattle.replica_table.specs.steps.Entries.{files_on}
use Rattle.replica_table.proofs.copied.push_files.Given as goal

abbrev pub invariant-copies : goal.invariant-copies
invariant-copies l = l.files.items ++ files_on l.name (members l.nodes.0) (drop l.copied-index l.copies) ≡ l.fn.files.items ++ files_on l.name (members l.nodes.0) l.copies
