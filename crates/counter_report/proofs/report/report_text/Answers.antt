use Rattle.counter_report.specs.Reports.{attempts, losses, outcome, reads, saying_line}
use Rattle.counter_report.proofs.Sayings.{four}
use Rattle.counter_report.proofs.report.report_text.Goals as goal

pub returns : goal.returns
returns c =
    let report = c.args.report.now in
    four saying_line (outcome report) (attempts report) (losses report) (reads report) c.new-text.result.items c.push_outcome.new.out.items c.push_attempts.new.out.items c.push_losses.new.out.items c.push_reads.new.out.items
    c.new-text.ensures.items c.in_ok-push_outcome.ensures c.in_ok-push_attempts.ensures c.in_ok-push_losses.ensures c.in_ok-push_reads.ensures
