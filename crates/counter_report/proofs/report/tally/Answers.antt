use Rattle.counter_report.proofs.Counting.{counted_next}
use Rattle.counter_report.proofs.report.tally.Goals as goal

pub entries-preserved : goal.entries-preserved
entries-preserved c = counted_next c.entries.report c.count.new.self c.as_slice-entry-items.result.now c.entries.entry-index _ c.entries-test.true c.entries.invariant c.count.ensures
