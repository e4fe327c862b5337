use Rattle.std.proofs.Common.{refl}
use Rattle.std.specs.Fmt.{digits}
use Rattle.counter_report.proofs.laws.worked_journals.Goals as goal

pub returns-clause-texts : goal.returns-clause-texts
unfolding digits
returns-clause-texts c = record { one_job_text = refl; no_entry = refl; commit = refl; starve = refl; fail = refl; kill = refl; drop = refl; struck = refl; lose = refl; back = refl; wipe = refl; busy = refl; idle = refl; skip_busy = refl; skip_round = refl; fixpoint = refl; close = refl }

pub returns-clause-reports : goal.returns-clause-reports
unfolding digits
returns-clause-reports c = record { one_job_report = refl; all_sorts_report = refl; no_entry = refl; rounds_alone = refl; last_end = refl; fixpoint = refl }
