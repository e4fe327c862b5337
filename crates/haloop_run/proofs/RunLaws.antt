-- What the calls of a run and its journal tell.
use Rattle.std.proofs.Common.{◌≡◌, ℕ, List, [], ◌∷◌, ◌++◌, Option, Some, refl, ap, ◌∙◌}
use Rattle.std.specs.Option.{option_or}
use Rattle.cluster_core.specs.Deciding.{chain_decision, end_of}
use Rattle.counter_report.specs.Reports.{report_text}
use Rattle.counter_report.specs.Tallies.{begun, end_by, last_told, rounds_by, tally, told_end as end_told}
use Rattle.counter_report.specs.declared.journal.EndWord.{EndWord}
use Rattle.counter_report.specs.declared.journal.EndWord.TheVariants.{Fixpoint, Close, Limit}
use Rattle.counter_report.specs.declared.journal.Entry.{Entry}
use Rattle.counter_report.specs.declared.journal.Entry.TheVariants as entry
use Rattle.counter_report.specs.declared.report.Report.{Report}
use Rattle.hal_outside.specs.DiskTold.{DiskTold}
use Rattle.hal_outside.specs.declared.disks.Disks.{Ghosts as Disks}
use Rattle.hal_outside.specs.declared.files.Files.{Ghosts as Files}
use Rattle.run_model.specs.Plans.{Plan}
use Rattle.run_model.specs.State.{PlainCluster, Setup}
use Rattle.valid_copies.specs.Calls.{Begun, Follows, MissedIn}
use Rattle.haloop_run.specs.Words.{Asked}
use Rattle.haloop_run.specs.Replays.{Ending, RunsTo, broken, computed, finished, missed, setup_of, task_failed}
use Rattle.haloop_run.specs.Statuses.{RanTo, reported}

-- ---- calls

-- the calls that a plan led to its end are its first calls
pub follows_begun : {A : Type 0} (plan rest : Plan A) (before after : Option DiskTold) → Follows plan before after rest → Begun plan before after
follows_begun plan rest before after f = record { calls = f.calls; rest = rest; added = f.added; leads = f.leads }

-- and so are those until a miss
pub missed_begun : {A : Type 0} (plan : Plan A) (before after : Option DiskTold) → MissedIn plan before after → Begun plan before after
missed_begun plan before after m = record { calls = m.done ++ m.last ∷ []; rest = m.rest; added = m.added; leads = m.leads }

runs_begun : (setup : Setup) (decisions : ℕ → Option EndWord) (before after : Option DiskTold) (last : PlainCluster) (ending : Ending) → RunsTo setup decisions before after last ending → RunsTo setup decisions before after last broken
runs_begun setup decisions before after last (finished word) r = (r.0, follows_begun _ _ before after r.1)
runs_begun setup decisions before after last (task_failed task) r = (r.0, follows_begun _ _ before after r.1)
runs_begun setup decisions before after last missed r = (r.0, missed_begun _ before after r.1)
runs_begun setup decisions before after last broken r = r

-- the calls of a run, whatever it came to, are the first of a run
pub began_to : {F D : Type 0} (g : Files F) (d : Disks D) (asked : Asked) (files : F) (old new : D) {ending : Ending} → RanTo g d asked files old new ending → RanTo g d asked files old new broken
began_to g d asked files old new {ending} t = record {
  program = t.program;
  schedule = t.schedule;
  tables = t.tables;
  comes = t.comes;
  last = t.last;
  ran = record {
    calls = (t.ran.calls.0, runs_begun (setup_of t.program t.schedule t.tables) t.ran.calls.0 (d.told old) (d.told new) t.last ending t.ran.calls.1);
    by_chain = λ true. runs_begun (setup_of t.program t.schedule t.tables) (chain_decision (computed t.program t.schedule t.tables)) (d.told old) (d.told new) t.last ending (t.ran.by_chain true);
    texts = t.ran.texts;
    unmissed = t.ran.unmissed;
    left = t.ran.left;
  };
}

-- ---- journals

last_end : (front : List Entry) (word : EndWord) (round : ℕ) → last_told end_told (front ++ entry.End word round ∷ []) ≡ Some (word, round)
last_end [] word round = refl
last_end (e ∷ front) word round = ap (λ o. option_or o (end_told e)) (last_end front word round)

end_reported : (word : EndWord) (round : ℕ) → end_by (Some (word, round)) ≡ reported (end_of word)
end_reported Fixpoint round = refl
end_reported Close round = refl
end_reported Limit round = refl

-- a report tells the last end of its journal
pub told_end : (word : EndWord) (round : ℕ) (front journal : List Entry) (line : List ℕ) → journal ≡ front ++ entry.End word round ∷ [] → line ≡ report_text (tally journal)
    → (report : Report) × (report.rounds ≡ round) × (report.end ≡ reported (end_of word)) × (line ≡ report_text report)
told_end word round front journal line e l =
    let last : last_told end_told journal ≡ Some (word, round) = ap (last_told end_told) e ∙ last_end front word round in
    (tally journal, ap (λ o. rounds_by o (last_told begun journal)) last, ap end_by last ∙ end_reported word round, l)
