use Rattle.std.proofs.Common.{◌≡◌, [], drop}
use Rattle.loop_program.specs.Types.{double_table}
use Rattle.loop_program.proofs.typing.double_table.Given as goal

abbrev pub invariant-tables : goal.invariant-tables
invariant-tables l = double_table l.names (drop l.table-index l.tables) ≡ double_table [] l.tables
