use Rattle.memory_run.proofs.OneTable.{split_there, split_missing}
use Rattle.memory_run.proofs.sources.table_splits.Goals as goal

pub returns-then-at-tables : goal.returns-then-at-tables
returns-then-at-tables c = split_there c.args.tables.now c.args.number c.if-at-tables.true

pub returns-else-at-tables : goal.returns-else-at-tables
returns-else-at-tables c = split_missing c.args.tables.now c.args.number c.if-at-tables.false
