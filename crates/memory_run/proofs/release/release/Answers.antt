use Rattle.std.proofs.Common.{sym, ap, ◌∙◌}
use Rattle.plain_job.specs.Chain.{table_at}
use Rattle.memory_run.proofs.Releasing.{serves_without, others_stay}
use Rattle.memory_run.proofs.release.release.Goals as goal

pub returns-then-not-is_read-clause-serve : goal.returns-then-not-is_read-clause-serve
returns-then-not-is_read-clause-serve c = λ m shape real h. serves_without m shape real c.args.tables.now c.take_table-released.new.tables c.args.number c.args.plan.now (sym c.if-not-is_read.ensures) c.take_table-released.ensures.left h

pub returns-then-not-is_read-clause-others : goal.returns-then-not-is_read-clause-others
returns-then-not-is_read-clause-others c = λ t d. ap (λ tables. table_at tables t) c.take_table-released.ensures.left ∙ others_stay c.args.tables.now c.args.number t d
