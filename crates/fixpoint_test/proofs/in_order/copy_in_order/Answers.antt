use Rattle.fixpoint_test.proofs.Orders.{needs_no_sort}
use Rattle.fixpoint_test.proofs.in_order.copy_in_order.Goals as goal

pub returns-then-is_sorted : goal.returns-then-is_sorted
returns-then-is_sorted c = needs_no_sort c.args.rows.now (rw (← c.as_slice.ensures) c.if-is_sorted.ensures.cases)
