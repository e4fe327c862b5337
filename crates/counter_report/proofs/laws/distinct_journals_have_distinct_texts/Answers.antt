use Rattle.counter_report.proofs.Distinct.{distinct_journals}
use Rattle.counter_report.proofs.laws.distinct_journals_have_distinct_texts.Goals as goal

pub returns : goal.returns
returns c = distinct_journals
