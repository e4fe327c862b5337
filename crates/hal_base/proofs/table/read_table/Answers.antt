use Rattle.hal_base.proofs.ReadingLaws.{only_table}
use Rattle.hal_base.proofs.table.read_table.Goals as goal

pub returns-clause-only : goal.returns-clause-only
returns-clause-only c = only_table c.args.schema.now c.args.bytes.now c.read_lines.result c.read_lines.ensures.found c.read_lines.ensures.fault
