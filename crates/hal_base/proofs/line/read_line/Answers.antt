use Rattle.hal_base.proofs.ReadingLaws.{only_record}
use Rattle.hal_base.proofs.line.read_line.Goals as goal

pub returns-clause-only : goal.returns-clause-only
returns-clause-only c = only_record c.args.schema.now c.args.line.now c.read_record.result c.read_record.ensures.found c.read_record.ensures.fault
