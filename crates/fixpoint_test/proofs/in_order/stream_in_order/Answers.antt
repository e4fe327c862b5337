use Rattle.hal_base.specs.Laws.{record_cmp_total}
use Rattle.hal_base.proofs.Sorts.{ascending_sorted}
use Rattle.fixpoint_test.proofs.in_order.stream_in_order.Goals as goal

pub new-requires : goal.new-requires
new-requires c = rw c.in_order.ensures (ascending_sorted record_cmp_total c.args.rows.now)
