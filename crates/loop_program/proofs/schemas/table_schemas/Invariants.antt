use Rattle.std.proofs.Common.{◌≡◌, drop}
use Rattle.loop_program.specs.Found.{each}
use Rattle.loop_program.specs.Schemas.{table_schema}
use Rattle.loop_program.proofs.Collecting.{behind}
use Rattle.loop_program.proofs.schemas.table_schemas.Given as goal

abbrev pub invariant-tables : goal.invariant-tables
invariant-tables l = each table_schema l.tables ≡ behind l.schemas (each table_schema (drop l.table-index l.tables))
