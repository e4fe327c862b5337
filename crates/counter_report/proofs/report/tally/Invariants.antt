use Rattle.std.proofs.Common.{◌≡◌, take}
use Rattle.counter_report.specs.Tallies.{tally}
use Rattle.counter_report.proofs.report.tally.Given as goal

abbrev pub invariant-entries : goal.invariant-entries
invariant-entries l = l.report ≡ tally (take l.entry-index l.entry-items)
