-- A report behind one more entry, for the contracts of private steps alone.
use Rattle.std.specs.Prelude.{ℕ, ◌+◌, Some}
use Rattle.node_names.specs.declared.task.Task.TheVariants.{Map, Reduce, Test}
use Rattle.counter_report.specs.declared.journal.Entry.{Entry}
use Rattle.counter_report.specs.declared.journal.Entry.TheVariants.{Round, Commit, Starve, Fail, Kill, Dropped, Struck, Skip, End}
use Rattle.counter_report.specs.declared.report.End.{End as Ending}
use Rattle.counter_report.specs.declared.report.End.TheVariants.{Unended}
use Rattle.counter_report.specs.declared.report.Report.{Report}
use Rattle.counter_report.specs.Tallies.{capped, end_by}

-- the rounds of a run when a round begins: an end that was told counts before it
abbrev pub rounds_behind : Ending → ℕ → ℕ → ℕ
rounds_behind Unended rounds round = round
rounds_behind end rounds round = rounds

-- a report behind one more entry
abbrev pub counted : Report → Entry → Report
counted it (Round round) = record it { rounds = rounds_behind it.end it.rounds round }
counted it (Commit (Map i j s q) node local remote caches) = record it { maps = capped (it.maps + 1); local = capped (it.local + local); remote = capped (it.remote + remote); mic = capped (it.mic + caches) }
counted it (Commit (Reduce i j p) node local remote caches) = record it { reduces = capped (it.reduces + 1); local = capped (it.local + local); remote = capped (it.remote + remote); ric = capped (it.ric + caches) }
counted it (Commit (Test i p) node local remote caches) = record it { tests = capped (it.tests + 1); local = capped (it.local + local); remote = capped (it.remote + remote); roc = capped (it.roc + caches) }
counted it (Starve task node) = record it { starved = capped (it.starved + 1) }
counted it (Fail task node count) = record it { fails = capped (it.fails + 1) }
counted it (Kill task node) = record it { kills = capped (it.kills + 1) }
counted it (Dropped task node) = record it { dropped = capped (it.dropped + 1) }
counted it (Struck name node) = record it { struck = capped (it.struck + 1) }
counted it (Skip word number) = record it { skipped = capped (it.skipped + 1) }
counted it (End word round) = record it { rounds = round; end = end_by (Some (word, round)) }
counted it entry = it
