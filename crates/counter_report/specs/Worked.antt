-- What the definitions give for journals that were worked out by hand.
use Rattle.std.specs.Prelude.{◌≡◌, ℕ, List, [], ◌∷◌, codes}
use Rattle.node_names.specs.declared.name.Name.TheVariants.{Blk, Roc}
use Rattle.node_names.specs.declared.task.Task.TheVariants as task
use Rattle.counter_report.specs.declared.journal.EndWord.TheVariants as ended
use Rattle.counter_report.specs.declared.journal.Entry.{Entry}
use Rattle.counter_report.specs.declared.journal.Entry.TheVariants.{Round, Start, Commit, Starve, Fail, Kill, Dropped, Struck, Lose, Back, Wipe, Busy, Idle, Skip, End}
use Rattle.counter_report.specs.declared.journal.EventWord.TheVariants as event
use Rattle.counter_report.specs.declared.report.Report.{Report}
use Rattle.counter_report.specs.declared.report.End.{End as Ending}
use Rattle.counter_report.specs.declared.report.End.TheVariants as ending
use Rattle.counter_report.specs.Journals.{entry_text, journal_text}
use Rattle.counter_report.specs.Reports.{report_text}
use Rattle.counter_report.specs.Tallies.{tally}

-- a run of one round, with one map and one reduce
abbrev pub one_job : List Entry
one_job =
    Round 1
    ∷ Start (task.Map 1 1 1 0) 0
    ∷ Commit (task.Map 1 1 1 0) 0 1 0 0
    ∷ Start (task.Reduce 1 1 0) 0
    ∷ Commit (task.Reduce 1 1 0) 0 1 0 0
    ∷ End ended.Limit 1
    ∷ []

-- some entries of each sort, of which two commits read as many files as can be counted
abbrev pub all_sorts : List Entry
all_sorts =
    Round 1
    ∷ Commit (task.Map 1 1 2 0) 0 18446744073709551615 2 1
    ∷ Commit (task.Reduce 1 1 0) 1 6 3 5
    ∷ Commit (task.Test 2 0) 0 1 0 1
    ∷ Starve (task.Map 1 1 2 0) 1
    ∷ Fail (task.Reduce 2 1 0) 3 4
    ∷ Kill (task.Map 2 1 1 1) 1
    ∷ Dropped (task.Test 2 0) 0
    ∷ Struck (Blk 1 0) 1
    ∷ Struck (Roc 2 0) 0
    ∷ Skip event.Done 0
    ∷ Skip event.Round 9
    ∷ Round 2
    ∷ []

-- a report with all counts 0 but those of rounds
abbrev pub only_rounds : ℕ → Ending → Report
only_rounds rounds end = record { rounds = rounds; end = end; maps = 0; reduces = 0; tests = 0; fails = 0; kills = 0; starved = 0; dropped = 0; skipped = 0; struck = 0; local = 0; remote = 0; ric = 0; mic = 0; roc = 0 }

-- the texts of journals and of entries
pub record WorkedTexts : Type 0 where
  pub one_job_text : journal_text one_job ≡ codes "round 1\nstart map.1.1.1.0 0\ncommit map.1.1.1.0 0 1 0 0\nstart reduce.1.1.0 0\ncommit reduce.1.1.0 0 1 0 0\nend limit 1\n"
  pub no_entry : journal_text [] ≡ []
  pub commit : entry_text (Commit (task.Test 2 0) 63 18446744073709551615 20 1) ≡ codes "commit test.2.0 63 18446744073709551615 20 1"
  pub starve : entry_text (Starve (task.Map 1 1 2 0) 1) ≡ codes "starve map.1.1.2.0 1"
  pub fail : entry_text (Fail (task.Reduce 2 1 0) 3 4) ≡ codes "fail reduce.2.1.0 3 4"
  pub kill : entry_text (Kill (task.Map 2 1 1 1) 1) ≡ codes "kill map.2.1.1.1 1"
  pub drop : entry_text (Dropped (task.Test 2 0) 0) ≡ codes "drop test.2.0 0"
  pub struck : entry_text (Struck (Blk 1 0) 1) ≡ codes "struck blk-1-0 1"
  pub lose : entry_text (Lose 3) ≡ codes "lose 3"
  pub back : entry_text (Back 3) ≡ codes "back 3"
  pub wipe : entry_text (Wipe 5) ≡ codes "wipe 5"
  pub busy : entry_text (Busy 0) ≡ codes "busy 0"
  pub idle : entry_text (Idle 0) ≡ codes "idle 0"
  pub skip_busy : entry_text (Skip event.Busy 0) ≡ codes "skip busy 0"
  pub skip_round : entry_text (Skip event.Round 9) ≡ codes "skip round 9"
  pub fixpoint : entry_text (End ended.Fixpoint 3) ≡ codes "end fixpoint 3"
  pub close : entry_text (End ended.Close 10000) ≡ codes "end close 10000"

-- the counts of journals
pub record WorkedReports : Type 0 where
  pub one_job_report : report_text (tally one_job) ≡ codes "rounds 1\nend limit\nmaps 1\nreduces 1\ntests 0\nfails 0\nkills 0\nstarved 0\ndropped 0\nskipped 0\nstruck 0\nlocal 2\nremote 0\nric 0\nmic 0\nroc 0\n"
  pub all_sorts_report : report_text (tally all_sorts) ≡ codes "rounds 2\nend open\nmaps 1\nreduces 1\ntests 1\nfails 1\nkills 1\nstarved 1\ndropped 1\nskipped 2\nstruck 2\nlocal 18446744073709551615\nremote 5\nric 5\nmic 1\nroc 1\n"
  pub no_entry : tally [] ≡ only_rounds 0 ending.Unended
  pub rounds_alone : tally (Round 1 ∷ Round 2 ∷ []) ≡ only_rounds 2 ending.Unended
  pub last_end : tally (Round 1 ∷ End ended.Limit 1 ∷ End ended.Close 3 ∷ Round 4 ∷ []) ≡ only_rounds 3 ending.Close
  pub fixpoint : tally (End ended.Fixpoint 7 ∷ []) ≡ only_rounds 7 ending.Fixpoint
