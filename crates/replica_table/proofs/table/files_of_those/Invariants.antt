use Rattle.std.proofs.Common.{◌≡◌, ◌++◌}
use Rattle.replica_table.specs.Sets.{members}
use Rattle.replica_table.specs.steps.Entries.{files_in}
use Rattle.replica_table.proofs.table.files_of_those.Given as goal

abbrev pub invariant-names : goal.invariant-names
invariant-names g l = l.files.items ++ files_in (g.T.NameTest.test l.test) (members l.nodes.0) l.name-iterator ≡ files_in (g.T.NameTest.test l.test) (members l.nodes.0) l.copies.entries
