use Rattle.std.proofs.Common.{◌∙◌}
use Rattle.memory_run.proofs.Releasing.{emptied_there, emptied_missing}
use Rattle.memory_run.proofs.OneTable.{split_missing, table_is}
use Rattle.memory_run.proofs.release.take_table.Goals as goal

pub returns-then-at-tables-clause-table : goal.returns-then-at-tables-clause-table
returns-then-at-tables-clause-table c = table_is c.args.tables.now c.args.number c.index-tables-at.result c.replace.result c.if-at-tables.true c.replace.ensures.value

pub returns-then-at-tables-clause-left : goal.returns-then-at-tables-clause-left
returns-then-at-tables-clause-left c = rw (c.replace.ensures.after, c.new.ensures) (emptied_there c.args.tables.now c.args.number c.if-at-tables.true)

pub returns-else-at-tables-clause-table : goal.returns-else-at-tables-clause-table
returns-else-at-tables-clause-table c = c.new-else-at-tables.ensures ∙ split_missing c.args.tables.now c.args.number c.if-at-tables.false

pub returns-else-at-tables-clause-left : goal.returns-else-at-tables-clause-left
returns-else-at-tables-clause-left c = emptied_missing c.args.tables.now c.args.number c.if-at-tables.false
