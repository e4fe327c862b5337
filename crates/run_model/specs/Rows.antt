-- What the definitions give for worked runs, as they were computed by hand.
use Rattle.std.specs.Prelude.{◌≡◌, Bool, true, false, List, [], ◌∷◌, Option, None, Some}
use Rattle.node_names.specs.declared.name.Name.TheVariants.{Blk, Spill, Out, Ric, Mic, Roc}
use Rattle.node_names.specs.declared.task.Task.TheVariants.{Map, Reduce, Test}
use Rattle.schedule_text.specs.declared.schedule.Event.TheVariants.{Done, Fail, Lose, Back, Busy, Round}
use Rattle.schedule_text.specs.declared.schedule.Event.TheVariants as event
use Rattle.counter_report.specs.declared.journal.EventWord.TheVariants as word
use Rattle.counter_report.specs.declared.journal.EndWord.{EndWord}
use Rattle.counter_report.specs.declared.journal.EndWord.TheVariants.{Fixpoint, Limit}
use Rattle.counter_report.specs.declared.journal.Entry.{Entry}
use Rattle.counter_report.specs.declared.journal.Entry.TheVariants as line
use Rattle.run_model.specs.State.{Setup}
use Rattle.run_model.specs.Plans.{under, Call, Wipe, Write, Read, Remove}
use Rattle.run_model.specs.Runs.{run, listed_decisions, journal_of}
use Rattle.run_model.specs.Programs.{setup, one_job, hops, stamps, kept_every}

-- the journal and the calls of a run of at most 200 turns under marks; where there are no more marks, no read misses
abbrev pub came : Setup → List (Option EndWord) → List Bool → List Entry × List Call
came s decisions marks = (journal_of (under (run 200 s (listed_decisions decisions)) marks), (under (run 200 s (listed_decisions decisions)) marks).calls)

-- runs worked by hand: their journals, their calls, and how they end
pub record WorkedRows : Type 0 where
  pub one_job_runs : came (setup one_job 1 1 []) (Some Limit ∷ []) ([]) ≡ ((line.Round 1 ∷ line.Start (Map 1 1 1 0) 0 ∷ line.Commit (Map 1 1 1 0) 0 1 0 0 ∷ line.Start (Reduce 1 1 0) 0 ∷ line.Commit (Reduce 1 1 0) 0 1 0 0 ∷ line.End Limit 1 ∷ []), (Wipe 0 ∷ Write 0 (Blk 0 0) ∷ Read 0 (Blk 0 0) ∷ Write 0 (Spill 1 1 1 0) ∷ Read 0 (Spill 1 1 1 0) ∷ Write 0 (Out 1 1 0) ∷ Read 0 (Out 1 1 0) ∷ []))
  pub one_job_with_skips : came (setup one_job 1 1 (Busy 0 ∷ Busy 0 ∷ Back 0 ∷ Done 0 ∷ Done 0 ∷ [])) (Some Limit ∷ []) ([]) ≡ ((line.Round 1 ∷ line.Start (Map 1 1 1 0) 0 ∷ line.Busy 0 ∷ line.Skip word.Busy 0 ∷ line.Skip word.Back 0 ∷ line.Commit (Map 1 1 1 0) 0 1 0 0 ∷ line.Skip word.Done 0 ∷ line.Start (Reduce 1 1 0) 0 ∷ line.Commit (Reduce 1 1 0) 0 1 0 0 ∷ line.End Limit 1 ∷ []), (Wipe 0 ∷ Write 0 (Blk 0 0) ∷ Read 0 (Blk 0 0) ∷ Write 0 (Spill 1 1 1 0) ∷ Read 0 (Spill 1 1 1 0) ∷ Write 0 (Out 1 1 0) ∷ Read 0 (Out 1 1 0) ∷ []))
  pub no_node : came (setup (hops 2) 1 1 (Lose 0 ∷ [])) ([]) ([]) ≡ ((line.Round 1 ∷ line.Start (Map 1 1 1 0) 0 ∷ line.Lose 0 ∷ line.Kill (Map 1 1 1 0) 0 ∷ []), (Wipe 0 ∷ Write 0 (Blk 0 0) ∷ Write 0 (Blk 1 0) ∷ []))
  pub block_lost : came (setup (hops 2) 2 1 (Lose 1 ∷ [])) ([]) ([]) ≡ ((line.Round 1 ∷ line.Start (Map 1 1 1 0) 0 ∷ line.Start (Map 1 1 2 0) 1 ∷ line.Lose 1 ∷ line.Kill (Map 1 1 2 0) 1 ∷ line.Commit (Map 1 1 1 0) 0 1 0 0 ∷ line.Start (Map 1 2 2 0) 0 ∷ line.Commit (Map 1 2 2 0) 0 1 0 0 ∷ []), (Wipe 0 ∷ Wipe 1 ∷ Write 0 (Blk 0 0) ∷ Write 1 (Blk 1 0) ∷ Read 0 (Blk 0 0) ∷ Write 0 (Spill 1 1 1 0) ∷ Read 0 (Blk 0 0) ∷ Write 0 (Spill 1 2 2 0) ∷ []))
  pub task_failed : came (setup (hops 2) 1 1 (Fail 0 ∷ Fail 0 ∷ Fail 0 ∷ Fail 0 ∷ [])) ([]) ([]) ≡ ((line.Round 1 ∷ line.Start (Map 1 1 1 0) 0 ∷ line.Fail (Map 1 1 1 0) 0 1 ∷ line.Start (Map 1 1 1 0) 0 ∷ line.Fail (Map 1 1 1 0) 0 2 ∷ line.Start (Map 1 1 1 0) 0 ∷ line.Fail (Map 1 1 1 0) 0 3 ∷ line.Start (Map 1 1 1 0) 0 ∷ line.Fail (Map 1 1 1 0) 0 4 ∷ []), (Wipe 0 ∷ Write 0 (Blk 0 0) ∷ Write 0 (Blk 1 0) ∷ []))
  pub starved_and_back : came (setup stamps 2 1 (Lose 0 ∷ Done 1 ∷ Back 0 ∷ [])) (None ∷ Some Fixpoint ∷ []) ([]) ≡ ((line.Round 1 ∷ line.Start (Map 1 1 1 0) 0 ∷ line.Start (Map 1 1 2 0) 1 ∷ line.Lose 0 ∷ line.Kill (Map 1 1 1 0) 0 ∷ line.Starve (Map 1 1 2 0) 1 ∷ line.Back 0 ∷ line.Start (Map 1 1 1 0) 0 ∷ line.Start (Map 1 1 2 0) 1 ∷ line.Commit (Map 1 1 1 0) 0 1 0 0 ∷ line.Commit (Map 1 1 2 0) 1 0 1 0 ∷ line.Start (Reduce 1 1 0) 0 ∷ line.Commit (Reduce 1 1 0) 0 1 1 0 ∷ line.Round 2 ∷ line.Start (Map 2 1 1 0) 0 ∷ line.Start (Map 2 1 2 0) 1 ∷ line.Commit (Map 2 1 1 0) 0 1 0 0 ∷ line.Commit (Map 2 1 2 0) 1 1 0 1 ∷ line.Start (Reduce 2 1 0) 0 ∷ line.Commit (Reduce 2 1 0) 0 1 1 0 ∷ line.Start (Test 2 0) 0 ∷ line.Commit (Test 2 0) 0 2 0 0 ∷ line.End Fixpoint 2 ∷ []), (Wipe 0 ∷ Wipe 1 ∷ Write 0 (Blk 0 0) ∷ Read 0 (Blk 0 0) ∷ Write 0 (Spill 1 1 1 0) ∷ Read 0 (Blk 0 0) ∷ Write 1 (Spill 1 1 2 0) ∷ Write 1 (Mic 0 0) ∷ Read 0 (Spill 1 1 1 0) ∷ Read 1 (Spill 1 1 2 0) ∷ Write 0 (Out 1 1 0) ∷ Remove 0 (Spill 1 1 1 0) ∷ Remove 1 (Spill 1 1 2 0) ∷ Read 0 (Out 1 1 0) ∷ Write 0 (Spill 2 1 1 0) ∷ Read 1 (Mic 0 0) ∷ Write 1 (Spill 2 1 2 0) ∷ Read 0 (Spill 2 1 1 0) ∷ Read 1 (Spill 2 1 2 0) ∷ Write 0 (Out 2 1 0) ∷ Read 0 (Out 2 1 0) ∷ Read 0 (Out 1 1 0) ∷ Read 0 (Out 2 1 0) ∷ []))
  pub block_kept : came (setup stamps 2 1 []) (None ∷ Some Fixpoint ∷ []) ([]) ≡ ((line.Round 1 ∷ line.Start (Map 1 1 1 0) 0 ∷ line.Start (Map 1 1 2 0) 1 ∷ line.Commit (Map 1 1 1 0) 0 1 0 0 ∷ line.Commit (Map 1 1 2 0) 1 0 1 0 ∷ line.Start (Reduce 1 1 0) 0 ∷ line.Commit (Reduce 1 1 0) 0 1 1 0 ∷ line.Round 2 ∷ line.Start (Map 2 1 1 0) 0 ∷ line.Start (Map 2 1 2 0) 1 ∷ line.Commit (Map 2 1 1 0) 0 1 0 0 ∷ line.Commit (Map 2 1 2 0) 1 1 0 1 ∷ line.Start (Reduce 2 1 0) 0 ∷ line.Commit (Reduce 2 1 0) 0 1 1 0 ∷ line.Start (Test 2 0) 0 ∷ line.Commit (Test 2 0) 0 2 0 0 ∷ line.End Fixpoint 2 ∷ []), (Wipe 0 ∷ Wipe 1 ∷ Write 0 (Blk 0 0) ∷ Read 0 (Blk 0 0) ∷ Write 0 (Spill 1 1 1 0) ∷ Read 0 (Blk 0 0) ∷ Write 1 (Spill 1 1 2 0) ∷ Write 1 (Mic 0 0) ∷ Read 0 (Spill 1 1 1 0) ∷ Read 1 (Spill 1 1 2 0) ∷ Write 0 (Out 1 1 0) ∷ Remove 0 (Spill 1 1 1 0) ∷ Remove 1 (Spill 1 1 2 0) ∷ Read 0 (Out 1 1 0) ∷ Write 0 (Spill 2 1 1 0) ∷ Read 1 (Mic 0 0) ∷ Write 1 (Spill 2 1 2 0) ∷ Read 0 (Spill 2 1 1 0) ∷ Read 1 (Spill 2 1 2 0) ∷ Write 0 (Out 2 1 0) ∷ Read 0 (Out 2 1 0) ∷ Read 0 (Out 1 1 0) ∷ Read 0 (Out 2 1 0) ∷ []))
  pub block_not_needed : came (setup (hops 1) 2 1 (Round 2 ∷ Lose 1 ∷ [])) (None ∷ None ∷ Some Fixpoint ∷ []) ([]) ≡ ((line.Round 1 ∷ line.Start (Map 1 1 1 0) 0 ∷ line.Start (Map 1 1 2 0) 1 ∷ line.Commit (Map 1 1 1 0) 0 1 0 0 ∷ line.Start (Map 1 2 2 0) 0 ∷ line.Commit (Map 1 2 2 0) 0 1 0 0 ∷ line.Commit (Map 1 1 2 0) 1 1 0 0 ∷ line.Start (Reduce 1 1 0) 0 ∷ line.Commit (Reduce 1 1 0) 0 1 1 0 ∷ line.Start (Map 1 2 1 0) 0 ∷ line.Commit (Map 1 2 1 0) 0 1 0 0 ∷ line.Start (Reduce 1 2 0) 0 ∷ line.Commit (Reduce 1 2 0) 0 2 0 0 ∷ line.Round 2 ∷ line.Start (Map 2 1 1 0) 0 ∷ line.Lose 1 ∷ line.Commit (Map 2 1 1 0) 0 1 0 0 ∷ line.Start (Reduce 2 1 0) 0 ∷ line.Commit (Reduce 2 1 0) 0 2 0 1 ∷ line.Start (Map 2 2 1 0) 0 ∷ line.Commit (Map 2 2 1 0) 0 1 0 0 ∷ line.Start (Reduce 2 2 0) 0 ∷ line.Commit (Reduce 2 2 0) 0 2 0 1 ∷ line.Start (Test 2 0) 0 ∷ line.Commit (Test 2 0) 0 2 0 1 ∷ line.Round 3 ∷ line.Start (Map 3 1 1 0) 0 ∷ line.Commit (Map 3 1 1 0) 0 1 0 0 ∷ line.Start (Reduce 3 1 0) 0 ∷ line.Commit (Reduce 3 1 0) 0 2 0 1 ∷ line.Start (Map 3 2 1 0) 0 ∷ line.Commit (Map 3 2 1 0) 0 1 0 0 ∷ line.Start (Reduce 3 2 0) 0 ∷ line.Commit (Reduce 3 2 0) 0 2 0 1 ∷ line.Start (Test 3 0) 0 ∷ line.Commit (Test 3 0) 0 2 0 1 ∷ line.End Fixpoint 3 ∷ []), (Wipe 0 ∷ Wipe 1 ∷ Write 0 (Blk 0 0) ∷ Write 1 (Blk 1 0) ∷ Read 0 (Blk 0 0) ∷ Write 0 (Spill 1 1 1 0) ∷ Read 0 (Blk 0 0) ∷ Write 0 (Spill 1 2 2 0) ∷ Read 1 (Blk 1 0) ∷ Write 1 (Spill 1 1 2 0) ∷ Read 0 (Spill 1 1 1 0) ∷ Read 1 (Spill 1 1 2 0) ∷ Write 0 (Out 1 1 0) ∷ Write 0 (Ric 1 2 0) ∷ Read 0 (Out 1 1 0) ∷ Write 0 (Spill 1 2 1 0) ∷ Read 0 (Spill 1 2 1 0) ∷ Read 0 (Spill 1 2 2 0) ∷ Write 0 (Out 1 2 0) ∷ Write 0 (Ric 2 2 0) ∷ Write 0 (Roc 1 0) ∷ Remove 0 (Spill 1 1 1 0) ∷ Remove 0 (Spill 1 2 1 0) ∷ Remove 0 (Out 1 1 0) ∷ Read 0 (Out 1 2 0) ∷ Write 0 (Spill 2 1 1 0) ∷ Read 0 (Spill 2 1 1 0) ∷ Read 0 (Ric 1 2 0) ∷ Write 0 (Out 2 1 0) ∷ Read 0 (Out 2 1 0) ∷ Write 0 (Spill 2 2 1 0) ∷ Read 0 (Spill 2 2 1 0) ∷ Read 0 (Ric 2 2 0) ∷ Write 0 (Out 2 2 0) ∷ Write 0 (Roc 2 0) ∷ Read 0 (Out 2 2 0) ∷ Read 0 (Roc 1 0) ∷ Remove 0 (Spill 2 1 1 0) ∷ Remove 0 (Spill 2 2 1 0) ∷ Remove 0 (Out 1 2 0) ∷ Remove 0 (Out 2 1 0) ∷ Remove 0 (Roc 1 0) ∷ Read 0 (Out 2 2 0) ∷ Write 0 (Spill 3 1 1 0) ∷ Read 0 (Spill 3 1 1 0) ∷ Read 0 (Ric 1 2 0) ∷ Write 0 (Out 3 1 0) ∷ Read 0 (Out 3 1 0) ∷ Write 0 (Spill 3 2 1 0) ∷ Read 0 (Spill 3 2 1 0) ∷ Read 0 (Ric 2 2 0) ∷ Write 0 (Out 3 2 0) ∷ Write 0 (Roc 3 0) ∷ Read 0 (Out 3 2 0) ∷ Read 0 (Roc 2 0) ∷ Read 0 (Out 3 2 0) ∷ []))
  pub lost_and_back : came (setup (hops 2) 1 1 (Lose 0 ∷ Back 0 ∷ [])) (None ∷ None ∷ Some Fixpoint ∷ []) ([]) ≡ ((line.Round 1 ∷ line.Start (Map 1 1 1 0) 0 ∷ line.Lose 0 ∷ line.Kill (Map 1 1 1 0) 0 ∷ line.Back 0 ∷ line.Start (Map 1 1 1 0) 0 ∷ line.Commit (Map 1 1 1 0) 0 1 0 0 ∷ line.Start (Map 1 1 2 0) 0 ∷ line.Commit (Map 1 1 2 0) 0 1 0 0 ∷ line.Start (Reduce 1 1 0) 0 ∷ line.Commit (Reduce 1 1 0) 0 2 0 0 ∷ line.Start (Reduce 1 1 1) 0 ∷ line.Commit (Reduce 1 1 1) 0 2 0 0 ∷ line.Start (Map 1 2 1 0) 0 ∷ line.Commit (Map 1 2 1 0) 0 1 0 0 ∷ line.Start (Map 1 2 1 1) 0 ∷ line.Commit (Map 1 2 1 1) 0 1 0 0 ∷ line.Start (Map 1 2 2 0) 0 ∷ line.Commit (Map 1 2 2 0) 0 1 0 0 ∷ line.Start (Reduce 1 2 0) 0 ∷ line.Commit (Reduce 1 2 0) 0 3 0 0 ∷ line.Start (Reduce 1 2 1) 0 ∷ line.Commit (Reduce 1 2 1) 0 3 0 0 ∷ line.Round 2 ∷ line.Start (Map 2 1 1 0) 0 ∷ line.Commit (Map 2 1 1 0) 0 1 0 0 ∷ line.Start (Map 2 1 1 1) 0 ∷ line.Commit (Map 2 1 1 1) 0 1 0 0 ∷ line.Start (Reduce 2 1 0) 0 ∷ line.Commit (Reduce 2 1 0) 0 3 0 1 ∷ line.Start (Reduce 2 1 1) 0 ∷ line.Commit (Reduce 2 1 1) 0 3 0 1 ∷ line.Start (Map 2 2 1 0) 0 ∷ line.Commit (Map 2 2 1 0) 0 1 0 0 ∷ line.Start (Map 2 2 1 1) 0 ∷ line.Commit (Map 2 2 1 1) 0 1 0 0 ∷ line.Start (Reduce 2 2 0) 0 ∷ line.Commit (Reduce 2 2 0) 0 3 0 1 ∷ line.Start (Reduce 2 2 1) 0 ∷ line.Commit (Reduce 2 2 1) 0 3 0 1 ∷ line.Start (Test 2 0) 0 ∷ line.Commit (Test 2 0) 0 2 0 1 ∷ line.Start (Test 2 1) 0 ∷ line.Commit (Test 2 1) 0 2 0 1 ∷ line.Round 3 ∷ line.Start (Map 3 1 1 0) 0 ∷ line.Commit (Map 3 1 1 0) 0 1 0 0 ∷ line.Start (Map 3 1 1 1) 0 ∷ line.Commit (Map 3 1 1 1) 0 1 0 0 ∷ line.Start (Reduce 3 1 0) 0 ∷ line.Commit (Reduce 3 1 0) 0 3 0 1 ∷ line.Start (Reduce 3 1 1) 0 ∷ line.Commit (Reduce 3 1 1) 0 3 0 1 ∷ line.Start (Map 3 2 1 0) 0 ∷ line.Commit (Map 3 2 1 0) 0 1 0 0 ∷ line.Start (Map 3 2 1 1) 0 ∷ line.Commit (Map 3 2 1 1) 0 1 0 0 ∷ line.Start (Reduce 3 2 0) 0 ∷ line.Commit (Reduce 3 2 0) 0 3 0 1 ∷ line.Start (Reduce 3 2 1) 0 ∷ line.Commit (Reduce 3 2 1) 0 3 0 1 ∷ line.Start (Test 3 0) 0 ∷ line.Commit (Test 3 0) 0 2 0 1 ∷ line.Start (Test 3 1) 0 ∷ line.Commit (Test 3 1) 0 2 0 1 ∷ line.End Fixpoint 3 ∷ []), (Wipe 0 ∷ Write 0 (Blk 0 0) ∷ Write 0 (Blk 1 0) ∷ Read 0 (Blk 0 0) ∷ Write 0 (Spill 1 1 1 0) ∷ Read 0 (Blk 1 0) ∷ Write 0 (Spill 1 1 2 0) ∷ Read 0 (Spill 1 1 1 0) ∷ Read 0 (Spill 1 1 2 0) ∷ Write 0 (Out 1 1 0) ∷ Write 0 (Ric 1 2 0) ∷ Read 0 (Spill 1 1 1 0) ∷ Read 0 (Spill 1 1 2 0) ∷ Write 0 (Out 1 1 1) ∷ Write 0 (Ric 1 2 1) ∷ Read 0 (Out 1 1 0) ∷ Write 0 (Spill 1 2 1 0) ∷ Read 0 (Out 1 1 1) ∷ Write 0 (Spill 1 2 1 1) ∷ Read 0 (Blk 0 0) ∷ Write 0 (Spill 1 2 2 0) ∷ Read 0 (Spill 1 2 1 0) ∷ Read 0 (Spill 1 2 1 1) ∷ Read 0 (Spill 1 2 2 0) ∷ Write 0 (Out 1 2 0) ∷ Write 0 (Ric 2 2 0) ∷ Write 0 (Roc 1 0) ∷ Read 0 (Spill 1 2 1 0) ∷ Read 0 (Spill 1 2 1 1) ∷ Read 0 (Spill 1 2 2 0) ∷ Write 0 (Out 1 2 1) ∷ Write 0 (Ric 2 2 1) ∷ Write 0 (Roc 1 1) ∷ Remove 0 (Spill 1 1 1 0) ∷ Remove 0 (Spill 1 2 1 0) ∷ Remove 0 (Spill 1 2 1 1) ∷ Remove 0 (Out 1 1 0) ∷ Remove 0 (Out 1 1 1) ∷ Read 0 (Out 1 2 0) ∷ Write 0 (Spill 2 1 1 0) ∷ Read 0 (Out 1 2 1) ∷ Write 0 (Spill 2 1 1 1) ∷ Read 0 (Spill 2 1 1 0) ∷ Read 0 (Spill 2 1 1 1) ∷ Read 0 (Ric 1 2 0) ∷ Write 0 (Out 2 1 0) ∷ Read 0 (Spill 2 1 1 0) ∷ Read 0 (Spill 2 1 1 1) ∷ Read 0 (Ric 1 2 1) ∷ Write 0 (Out 2 1 1) ∷ Read 0 (Out 2 1 0) ∷ Write 0 (Spill 2 2 1 0) ∷ Read 0 (Out 2 1 1) ∷ Write 0 (Spill 2 2 1 1) ∷ Read 0 (Spill 2 2 1 0) ∷ Read 0 (Spill 2 2 1 1) ∷ Read 0 (Ric 2 2 0) ∷ Write 0 (Out 2 2 0) ∷ Write 0 (Roc 2 0) ∷ Read 0 (Spill 2 2 1 0) ∷ Read 0 (Spill 2 2 1 1) ∷ Read 0 (Ric 2 2 1) ∷ Write 0 (Out 2 2 1) ∷ Write 0 (Roc 2 1) ∷ Read 0 (Out 2 2 0) ∷ Read 0 (Roc 1 0) ∷ Read 0 (Out 2 2 1) ∷ Read 0 (Roc 1 1) ∷ Remove 0 (Spill 2 1 1 0) ∷ Remove 0 (Spill 2 1 1 1) ∷ Remove 0 (Spill 2 2 1 0) ∷ Remove 0 (Spill 2 2 1 1) ∷ Remove 0 (Out 1 2 0) ∷ Remove 0 (Out 1 2 1) ∷ Remove 0 (Out 2 1 0) ∷ Remove 0 (Out 2 1 1) ∷ Remove 0 (Roc 1 0) ∷ Remove 0 (Roc 1 1) ∷ Read 0 (Out 2 2 0) ∷ Write 0 (Spill 3 1 1 0) ∷ Read 0 (Out 2 2 1) ∷ Write 0 (Spill 3 1 1 1) ∷ Read 0 (Spill 3 1 1 0) ∷ Read 0 (Spill 3 1 1 1) ∷ Read 0 (Ric 1 2 0) ∷ Write 0 (Out 3 1 0) ∷ Read 0 (Spill 3 1 1 0) ∷ Read 0 (Spill 3 1 1 1) ∷ Read 0 (Ric 1 2 1) ∷ Write 0 (Out 3 1 1) ∷ Read 0 (Out 3 1 0) ∷ Write 0 (Spill 3 2 1 0) ∷ Read 0 (Out 3 1 1) ∷ Write 0 (Spill 3 2 1 1) ∷ Read 0 (Spill 3 2 1 0) ∷ Read 0 (Spill 3 2 1 1) ∷ Read 0 (Ric 2 2 0) ∷ Write 0 (Out 3 2 0) ∷ Write 0 (Roc 3 0) ∷ Read 0 (Spill 3 2 1 0) ∷ Read 0 (Spill 3 2 1 1) ∷ Read 0 (Ric 2 2 1) ∷ Write 0 (Out 3 2 1) ∷ Write 0 (Roc 3 1) ∷ Read 0 (Out 3 2 0) ∷ Read 0 (Roc 2 0) ∷ Read 0 (Out 3 2 1) ∷ Read 0 (Roc 2 1) ∷ Read 0 (Out 3 2 0) ∷ Read 0 (Out 3 2 1) ∷ []))
  pub failures : came (setup (hops 2) 1 1 (Fail 0 ∷ Fail 0 ∷ Fail 0 ∷ [])) (None ∷ None ∷ Some Fixpoint ∷ []) ([]) ≡ ((line.Round 1 ∷ line.Start (Map 1 1 1 0) 0 ∷ line.Fail (Map 1 1 1 0) 0 1 ∷ line.Start (Map 1 1 1 0) 0 ∷ line.Fail (Map 1 1 1 0) 0 2 ∷ line.Start (Map 1 1 1 0) 0 ∷ line.Fail (Map 1 1 1 0) 0 3 ∷ line.Start (Map 1 1 1 0) 0 ∷ line.Commit (Map 1 1 1 0) 0 1 0 0 ∷ line.Start (Map 1 1 2 0) 0 ∷ line.Commit (Map 1 1 2 0) 0 1 0 0 ∷ line.Start (Reduce 1 1 0) 0 ∷ line.Commit (Reduce 1 1 0) 0 2 0 0 ∷ line.Start (Reduce 1 1 1) 0 ∷ line.Commit (Reduce 1 1 1) 0 2 0 0 ∷ line.Start (Map 1 2 1 0) 0 ∷ line.Commit (Map 1 2 1 0) 0 1 0 0 ∷ line.Start (Map 1 2 1 1) 0 ∷ line.Commit (Map 1 2 1 1) 0 1 0 0 ∷ line.Start (Map 1 2 2 0) 0 ∷ line.Commit (Map 1 2 2 0) 0 1 0 0 ∷ line.Start (Reduce 1 2 0) 0 ∷ line.Commit (Reduce 1 2 0) 0 3 0 0 ∷ line.Start (Reduce 1 2 1) 0 ∷ line.Commit (Reduce 1 2 1) 0 3 0 0 ∷ line.Round 2 ∷ line.Start (Map 2 1 1 0) 0 ∷ line.Commit (Map 2 1 1 0) 0 1 0 0 ∷ line.Start (Map 2 1 1 1) 0 ∷ line.Commit (Map 2 1 1 1) 0 1 0 0 ∷ line.Start (Reduce 2 1 0) 0 ∷ line.Commit (Reduce 2 1 0) 0 3 0 1 ∷ line.Start (Reduce 2 1 1) 0 ∷ line.Commit (Reduce 2 1 1) 0 3 0 1 ∷ line.Start (Map 2 2 1 0) 0 ∷ line.Commit (Map 2 2 1 0) 0 1 0 0 ∷ line.Start (Map 2 2 1 1) 0 ∷ line.Commit (Map 2 2 1 1) 0 1 0 0 ∷ line.Start (Reduce 2 2 0) 0 ∷ line.Commit (Reduce 2 2 0) 0 3 0 1 ∷ line.Start (Reduce 2 2 1) 0 ∷ line.Commit (Reduce 2 2 1) 0 3 0 1 ∷ line.Start (Test 2 0) 0 ∷ line.Commit (Test 2 0) 0 2 0 1 ∷ line.Start (Test 2 1) 0 ∷ line.Commit (Test 2 1) 0 2 0 1 ∷ line.Round 3 ∷ line.Start (Map 3 1 1 0) 0 ∷ line.Commit (Map 3 1 1 0) 0 1 0 0 ∷ line.Start (Map 3 1 1 1) 0 ∷ line.Commit (Map 3 1 1 1) 0 1 0 0 ∷ line.Start (Reduce 3 1 0) 0 ∷ line.Commit (Reduce 3 1 0) 0 3 0 1 ∷ line.Start (Reduce 3 1 1) 0 ∷ line.Commit (Reduce 3 1 1) 0 3 0 1 ∷ line.Start (Map 3 2 1 0) 0 ∷ line.Commit (Map 3 2 1 0) 0 1 0 0 ∷ line.Start (Map 3 2 1 1) 0 ∷ line.Commit (Map 3 2 1 1) 0 1 0 0 ∷ line.Start (Reduce 3 2 0) 0 ∷ line.Commit (Reduce 3 2 0) 0 3 0 1 ∷ line.Start (Reduce 3 2 1) 0 ∷ line.Commit (Reduce 3 2 1) 0 3 0 1 ∷ line.Start (Test 3 0) 0 ∷ line.Commit (Test 3 0) 0 2 0 1 ∷ line.Start (Test 3 1) 0 ∷ line.Commit (Test 3 1) 0 2 0 1 ∷ line.End Fixpoint 3 ∷ []), (Wipe 0 ∷ Write 0 (Blk 0 0) ∷ Write 0 (Blk 1 0) ∷ Read 0 (Blk 0 0) ∷ Write 0 (Spill 1 1 1 0) ∷ Read 0 (Blk 1 0) ∷ Write 0 (Spill 1 1 2 0) ∷ Read 0 (Spill 1 1 1 0) ∷ Read 0 (Spill 1 1 2 0) ∷ Write 0 (Out 1 1 0) ∷ Write 0 (Ric 1 2 0) ∷ Read 0 (Spill 1 1 1 0) ∷ Read 0 (Spill 1 1 2 0) ∷ Write 0 (Out 1 1 1) ∷ Write 0 (Ric 1 2 1) ∷ Read 0 (Out 1 1 0) ∷ Write 0 (Spill 1 2 1 0) ∷ Read 0 (Out 1 1 1) ∷ Write 0 (Spill 1 2 1 1) ∷ Read 0 (Blk 0 0) ∷ Write 0 (Spill 1 2 2 0) ∷ Read 0 (Spill 1 2 1 0) ∷ Read 0 (Spill 1 2 1 1) ∷ Read 0 (Spill 1 2 2 0) ∷ Write 0 (Out 1 2 0) ∷ Write 0 (Ric 2 2 0) ∷ Write 0 (Roc 1 0) ∷ Read 0 (Spill 1 2 1 0) ∷ Read 0 (Spill 1 2 1 1) ∷ Read 0 (Spill 1 2 2 0) ∷ Write 0 (Out 1 2 1) ∷ Write 0 (Ric 2 2 1) ∷ Write 0 (Roc 1 1) ∷ Remove 0 (Spill 1 1 1 0) ∷ Remove 0 (Spill 1 2 1 0) ∷ Remove 0 (Spill 1 2 1 1) ∷ Remove 0 (Out 1 1 0) ∷ Remove 0 (Out 1 1 1) ∷ Read 0 (Out 1 2 0) ∷ Write 0 (Spill 2 1 1 0) ∷ Read 0 (Out 1 2 1) ∷ Write 0 (Spill 2 1 1 1) ∷ Read 0 (Spill 2 1 1 0) ∷ Read 0 (Spill 2 1 1 1) ∷ Read 0 (Ric 1 2 0) ∷ Write 0 (Out 2 1 0) ∷ Read 0 (Spill 2 1 1 0) ∷ Read 0 (Spill 2 1 1 1) ∷ Read 0 (Ric 1 2 1) ∷ Write 0 (Out 2 1 1) ∷ Read 0 (Out 2 1 0) ∷ Write 0 (Spill 2 2 1 0) ∷ Read 0 (Out 2 1 1) ∷ Write 0 (Spill 2 2 1 1) ∷ Read 0 (Spill 2 2 1 0) ∷ Read 0 (Spill 2 2 1 1) ∷ Read 0 (Ric 2 2 0) ∷ Write 0 (Out 2 2 0) ∷ Write 0 (Roc 2 0) ∷ Read 0 (Spill 2 2 1 0) ∷ Read 0 (Spill 2 2 1 1) ∷ Read 0 (Ric 2 2 1) ∷ Write 0 (Out 2 2 1) ∷ Write 0 (Roc 2 1) ∷ Read 0 (Out 2 2 0) ∷ Read 0 (Roc 1 0) ∷ Read 0 (Out 2 2 1) ∷ Read 0 (Roc 1 1) ∷ Remove 0 (Spill 2 1 1 0) ∷ Remove 0 (Spill 2 1 1 1) ∷ Remove 0 (Spill 2 2 1 0) ∷ Remove 0 (Spill 2 2 1 1) ∷ Remove 0 (Out 1 2 0) ∷ Remove 0 (Out 1 2 1) ∷ Remove 0 (Out 2 1 0) ∷ Remove 0 (Out 2 1 1) ∷ Remove 0 (Roc 1 0) ∷ Remove 0 (Roc 1 1) ∷ Read 0 (Out 2 2 0) ∷ Write 0 (Spill 3 1 1 0) ∷ Read 0 (Out 2 2 1) ∷ Write 0 (Spill 3 1 1 1) ∷ Read 0 (Spill 3 1 1 0) ∷ Read 0 (Spill 3 1 1 1) ∷ Read 0 (Ric 1 2 0) ∷ Write 0 (Out 3 1 0) ∷ Read 0 (Spill 3 1 1 0) ∷ Read 0 (Spill 3 1 1 1) ∷ Read 0 (Ric 1 2 1) ∷ Write 0 (Out 3 1 1) ∷ Read 0 (Out 3 1 0) ∷ Write 0 (Spill 3 2 1 0) ∷ Read 0 (Out 3 1 1) ∷ Write 0 (Spill 3 2 1 1) ∷ Read 0 (Spill 3 2 1 0) ∷ Read 0 (Spill 3 2 1 1) ∷ Read 0 (Ric 2 2 0) ∷ Write 0 (Out 3 2 0) ∷ Write 0 (Roc 3 0) ∷ Read 0 (Spill 3 2 1 0) ∷ Read 0 (Spill 3 2 1 1) ∷ Read 0 (Ric 2 2 1) ∷ Write 0 (Out 3 2 1) ∷ Write 0 (Roc 3 1) ∷ Read 0 (Out 3 2 0) ∷ Read 0 (Roc 2 0) ∷ Read 0 (Out 3 2 1) ∷ Read 0 (Roc 2 1) ∷ Read 0 (Out 3 2 0) ∷ Read 0 (Out 3 2 1) ∷ []))
  pub failures_and_a_kill : came (setup (hops 2) 1 1 (Fail 0 ∷ Lose 0 ∷ Back 0 ∷ Fail 0 ∷ Fail 0 ∷ [])) (None ∷ None ∷ Some Fixpoint ∷ []) ([]) ≡ ((line.Round 1 ∷ line.Start (Map 1 1 1 0) 0 ∷ line.Fail (Map 1 1 1 0) 0 1 ∷ line.Start (Map 1 1 1 0) 0 ∷ line.Lose 0 ∷ line.Kill (Map 1 1 1 0) 0 ∷ line.Back 0 ∷ line.Start (Map 1 1 1 0) 0 ∷ line.Fail (Map 1 1 1 0) 0 2 ∷ line.Start (Map 1 1 1 0) 0 ∷ line.Fail (Map 1 1 1 0) 0 3 ∷ line.Start (Map 1 1 1 0) 0 ∷ line.Commit (Map 1 1 1 0) 0 1 0 0 ∷ line.Start (Map 1 1 2 0) 0 ∷ line.Commit (Map 1 1 2 0) 0 1 0 0 ∷ line.Start (Reduce 1 1 0) 0 ∷ line.Commit (Reduce 1 1 0) 0 2 0 0 ∷ line.Start (Reduce 1 1 1) 0 ∷ line.Commit (Reduce 1 1 1) 0 2 0 0 ∷ line.Start (Map 1 2 1 0) 0 ∷ line.Commit (Map 1 2 1 0) 0 1 0 0 ∷ line.Start (Map 1 2 1 1) 0 ∷ line.Commit (Map 1 2 1 1) 0 1 0 0 ∷ line.Start (Map 1 2 2 0) 0 ∷ line.Commit (Map 1 2 2 0) 0 1 0 0 ∷ line.Start (Reduce 1 2 0) 0 ∷ line.Commit (Reduce 1 2 0) 0 3 0 0 ∷ line.Start (Reduce 1 2 1) 0 ∷ line.Commit (Reduce 1 2 1) 0 3 0 0 ∷ line.Round 2 ∷ line.Start (Map 2 1 1 0) 0 ∷ line.Commit (Map 2 1 1 0) 0 1 0 0 ∷ line.Start (Map 2 1 1 1) 0 ∷ line.Commit (Map 2 1 1 1) 0 1 0 0 ∷ line.Start (Reduce 2 1 0) 0 ∷ line.Commit (Reduce 2 1 0) 0 3 0 1 ∷ line.Start (Reduce 2 1 1) 0 ∷ line.Commit (Reduce 2 1 1) 0 3 0 1 ∷ line.Start (Map 2 2 1 0) 0 ∷ line.Commit (Map 2 2 1 0) 0 1 0 0 ∷ line.Start (Map 2 2 1 1) 0 ∷ line.Commit (Map 2 2 1 1) 0 1 0 0 ∷ line.Start (Reduce 2 2 0) 0 ∷ line.Commit (Reduce 2 2 0) 0 3 0 1 ∷ line.Start (Reduce 2 2 1) 0 ∷ line.Commit (Reduce 2 2 1) 0 3 0 1 ∷ line.Start (Test 2 0) 0 ∷ line.Commit (Test 2 0) 0 2 0 1 ∷ line.Start (Test 2 1) 0 ∷ line.Commit (Test 2 1) 0 2 0 1 ∷ line.Round 3 ∷ line.Start (Map 3 1 1 0) 0 ∷ line.Commit (Map 3 1 1 0) 0 1 0 0 ∷ line.Start (Map 3 1 1 1) 0 ∷ line.Commit (Map 3 1 1 1) 0 1 0 0 ∷ line.Start (Reduce 3 1 0) 0 ∷ line.Commit (Reduce 3 1 0) 0 3 0 1 ∷ line.Start (Reduce 3 1 1) 0 ∷ line.Commit (Reduce 3 1 1) 0 3 0 1 ∷ line.Start (Map 3 2 1 0) 0 ∷ line.Commit (Map 3 2 1 0) 0 1 0 0 ∷ line.Start (Map 3 2 1 1) 0 ∷ line.Commit (Map 3 2 1 1) 0 1 0 0 ∷ line.Start (Reduce 3 2 0) 0 ∷ line.Commit (Reduce 3 2 0) 0 3 0 1 ∷ line.Start (Reduce 3 2 1) 0 ∷ line.Commit (Reduce 3 2 1) 0 3 0 1 ∷ line.Start (Test 3 0) 0 ∷ line.Commit (Test 3 0) 0 2 0 1 ∷ line.Start (Test 3 1) 0 ∷ line.Commit (Test 3 1) 0 2 0 1 ∷ line.End Fixpoint 3 ∷ []), (Wipe 0 ∷ Write 0 (Blk 0 0) ∷ Write 0 (Blk 1 0) ∷ Read 0 (Blk 0 0) ∷ Write 0 (Spill 1 1 1 0) ∷ Read 0 (Blk 1 0) ∷ Write 0 (Spill 1 1 2 0) ∷ Read 0 (Spill 1 1 1 0) ∷ Read 0 (Spill 1 1 2 0) ∷ Write 0 (Out 1 1 0) ∷ Write 0 (Ric 1 2 0) ∷ Read 0 (Spill 1 1 1 0) ∷ Read 0 (Spill 1 1 2 0) ∷ Write 0 (Out 1 1 1) ∷ Write 0 (Ric 1 2 1) ∷ Read 0 (Out 1 1 0) ∷ Write 0 (Spill 1 2 1 0) ∷ Read 0 (Out 1 1 1) ∷ Write 0 (Spill 1 2 1 1) ∷ Read 0 (Blk 0 0) ∷ Write 0 (Spill 1 2 2 0) ∷ Read 0 (Spill 1 2 1 0) ∷ Read 0 (Spill 1 2 1 1) ∷ Read 0 (Spill 1 2 2 0) ∷ Write 0 (Out 1 2 0) ∷ Write 0 (Ric 2 2 0) ∷ Write 0 (Roc 1 0) ∷ Read 0 (Spill 1 2 1 0) ∷ Read 0 (Spill 1 2 1 1) ∷ Read 0 (Spill 1 2 2 0) ∷ Write 0 (Out 1 2 1) ∷ Write 0 (Ric 2 2 1) ∷ Write 0 (Roc 1 1) ∷ Remove 0 (Spill 1 1 1 0) ∷ Remove 0 (Spill 1 2 1 0) ∷ Remove 0 (Spill 1 2 1 1) ∷ Remove 0 (Out 1 1 0) ∷ Remove 0 (Out 1 1 1) ∷ Read 0 (Out 1 2 0) ∷ Write 0 (Spill 2 1 1 0) ∷ Read 0 (Out 1 2 1) ∷ Write 0 (Spill 2 1 1 1) ∷ Read 0 (Spill 2 1 1 0) ∷ Read 0 (Spill 2 1 1 1) ∷ Read 0 (Ric 1 2 0) ∷ Write 0 (Out 2 1 0) ∷ Read 0 (Spill 2 1 1 0) ∷ Read 0 (Spill 2 1 1 1) ∷ Read 0 (Ric 1 2 1) ∷ Write 0 (Out 2 1 1) ∷ Read 0 (Out 2 1 0) ∷ Write 0 (Spill 2 2 1 0) ∷ Read 0 (Out 2 1 1) ∷ Write 0 (Spill 2 2 1 1) ∷ Read 0 (Spill 2 2 1 0) ∷ Read 0 (Spill 2 2 1 1) ∷ Read 0 (Ric 2 2 0) ∷ Write 0 (Out 2 2 0) ∷ Write 0 (Roc 2 0) ∷ Read 0 (Spill 2 2 1 0) ∷ Read 0 (Spill 2 2 1 1) ∷ Read 0 (Ric 2 2 1) ∷ Write 0 (Out 2 2 1) ∷ Write 0 (Roc 2 1) ∷ Read 0 (Out 2 2 0) ∷ Read 0 (Roc 1 0) ∷ Read 0 (Out 2 2 1) ∷ Read 0 (Roc 1 1) ∷ Remove 0 (Spill 2 1 1 0) ∷ Remove 0 (Spill 2 1 1 1) ∷ Remove 0 (Spill 2 2 1 0) ∷ Remove 0 (Spill 2 2 1 1) ∷ Remove 0 (Out 1 2 0) ∷ Remove 0 (Out 1 2 1) ∷ Remove 0 (Out 2 1 0) ∷ Remove 0 (Out 2 1 1) ∷ Remove 0 (Roc 1 0) ∷ Remove 0 (Roc 1 1) ∷ Read 0 (Out 2 2 0) ∷ Write 0 (Spill 3 1 1 0) ∷ Read 0 (Out 2 2 1) ∷ Write 0 (Spill 3 1 1 1) ∷ Read 0 (Spill 3 1 1 0) ∷ Read 0 (Spill 3 1 1 1) ∷ Read 0 (Ric 1 2 0) ∷ Write 0 (Out 3 1 0) ∷ Read 0 (Spill 3 1 1 0) ∷ Read 0 (Spill 3 1 1 1) ∷ Read 0 (Ric 1 2 1) ∷ Write 0 (Out 3 1 1) ∷ Read 0 (Out 3 1 0) ∷ Write 0 (Spill 3 2 1 0) ∷ Read 0 (Out 3 1 1) ∷ Write 0 (Spill 3 2 1 1) ∷ Read 0 (Spill 3 2 1 0) ∷ Read 0 (Spill 3 2 1 1) ∷ Read 0 (Ric 2 2 0) ∷ Write 0 (Out 3 2 0) ∷ Write 0 (Roc 3 0) ∷ Read 0 (Spill 3 2 1 0) ∷ Read 0 (Spill 3 2 1 1) ∷ Read 0 (Ric 2 2 1) ∷ Write 0 (Out 3 2 1) ∷ Write 0 (Roc 3 1) ∷ Read 0 (Out 3 2 0) ∷ Read 0 (Roc 2 0) ∷ Read 0 (Out 3 2 1) ∷ Read 0 (Roc 2 1) ∷ Read 0 (Out 3 2 0) ∷ Read 0 (Out 3 2 1) ∷ []))
  pub cache_lost : came (setup (hops 2) 2 2 (Round 2 ∷ Lose 1 ∷ [])) (None ∷ None ∷ Some Fixpoint ∷ []) ([]) ≡ ((line.Round 1 ∷ line.Start (Map 1 1 1 0) 0 ∷ line.Start (Map 1 1 2 0) 1 ∷ line.Commit (Map 1 1 1 0) 0 1 0 0 ∷ line.Start (Map 1 2 2 0) 0 ∷ line.Commit (Map 1 2 2 0) 0 1 0 0 ∷ line.Commit (Map 1 1 2 0) 1 1 0 0 ∷ line.Start (Reduce 1 1 0) 0 ∷ line.Start (Reduce 1 1 1) 1 ∷ line.Commit (Reduce 1 1 0) 0 1 1 0 ∷ line.Start (Map 1 2 1 0) 0 ∷ line.Commit (Map 1 2 1 0) 0 1 0 0 ∷ line.Commit (Reduce 1 1 1) 1 1 1 0 ∷ line.Start (Map 1 2 1 1) 1 ∷ line.Commit (Map 1 2 1 1) 1 1 0 0 ∷ line.Start (Reduce 1 2 0) 0 ∷ line.Start (Reduce 1 2 1) 1 ∷ line.Commit (Reduce 1 2 0) 0 2 1 0 ∷ line.Commit (Reduce 1 2 1) 1 1 2 0 ∷ line.Round 2 ∷ line.Start (Map 2 1 1 0) 0 ∷ line.Start (Map 2 1 1 1) 1 ∷ line.Lose 1 ∷ line.Kill (Map 2 1 1 1) 1 ∷ line.Commit (Map 2 1 1 0) 0 1 0 0 ∷ line.Start (Map 1 1 2 0) 0 ∷ line.Commit (Map 1 1 2 0) 0 1 0 0 ∷ line.Start (Map 2 1 1 1) 0 ∷ line.Commit (Map 2 1 1 1) 0 1 0 0 ∷ line.Start (Reduce 2 1 0) 0 ∷ line.Commit (Reduce 2 1 0) 0 3 0 1 ∷ line.Start (Reduce 2 1 1) 0 ∷ line.Commit (Reduce 2 1 1) 0 3 0 0 ∷ line.Start (Map 2 2 1 0) 0 ∷ line.Commit (Map 2 2 1 0) 0 1 0 0 ∷ line.Start (Map 2 2 1 1) 0 ∷ line.Commit (Map 2 2 1 1) 0 1 0 0 ∷ line.Start (Reduce 2 2 0) 0 ∷ line.Commit (Reduce 2 2 0) 0 3 0 1 ∷ line.Start (Reduce 2 2 1) 0 ∷ line.Commit (Reduce 2 2 1) 0 3 0 0 ∷ line.Start (Test 2 0) 0 ∷ line.Commit (Test 2 0) 0 2 0 1 ∷ line.Start (Test 2 1) 0 ∷ line.Commit (Test 2 1) 0 2 0 0 ∷ line.Round 3 ∷ line.Start (Map 3 1 1 0) 0 ∷ line.Commit (Map 3 1 1 0) 0 1 0 0 ∷ line.Start (Map 3 1 1 1) 0 ∷ line.Commit (Map 3 1 1 1) 0 1 0 0 ∷ line.Start (Reduce 3 1 0) 0 ∷ line.Commit (Reduce 3 1 0) 0 3 0 1 ∷ line.Start (Reduce 3 1 1) 0 ∷ line.Commit (Reduce 3 1 1) 0 3 0 1 ∷ line.Start (Map 3 2 1 0) 0 ∷ line.Commit (Map 3 2 1 0) 0 1 0 0 ∷ line.Start (Map 3 2 1 1) 0 ∷ line.Commit (Map 3 2 1 1) 0 1 0 0 ∷ line.Start (Reduce 3 2 0) 0 ∷ line.Commit (Reduce 3 2 0) 0 3 0 1 ∷ line.Start (Reduce 3 2 1) 0 ∷ line.Commit (Reduce 3 2 1) 0 3 0 1 ∷ line.Start (Test 3 0) 0 ∷ line.Commit (Test 3 0) 0 2 0 1 ∷ line.Start (Test 3 1) 0 ∷ line.Commit (Test 3 1) 0 2 0 1 ∷ line.End Fixpoint 3 ∷ []), (Wipe 0 ∷ Wipe 1 ∷ Write 0 (Blk 0 0) ∷ Write 1 (Blk 0 0) ∷ Write 1 (Blk 1 0) ∷ Write 0 (Blk 1 0) ∷ Read 0 (Blk 0 0) ∷ Write 0 (Spill 1 1 1 0) ∷ Read 0 (Blk 0 0) ∷ Write 0 (Spill 1 2 2 0) ∷ Read 1 (Blk 1 0) ∷ Write 1 (Spill 1 1 2 0) ∷ Read 0 (Spill 1 1 1 0) ∷ Read 1 (Spill 1 1 2 0) ∷ Write 0 (Out 1 1 0) ∷ Write 0 (Ric 1 2 0) ∷ Read 0 (Out 1 1 0) ∷ Write 0 (Spill 1 2 1 0) ∷ Read 0 (Spill 1 1 1 0) ∷ Read 1 (Spill 1 1 2 0) ∷ Write 1 (Out 1 1 1) ∷ Write 1 (Ric 1 2 1) ∷ Read 1 (Out 1 1 1) ∷ Write 1 (Spill 1 2 1 1) ∷ Read 0 (Spill 1 2 1 0) ∷ Read 1 (Spill 1 2 1 1) ∷ Read 0 (Spill 1 2 2 0) ∷ Write 0 (Out 1 2 0) ∷ Write 0 (Ric 2 2 0) ∷ Write 0 (Roc 1 0) ∷ Write 1 (Out 1 2 0) ∷ Read 0 (Spill 1 2 1 0) ∷ Read 1 (Spill 1 2 1 1) ∷ Read 0 (Spill 1 2 2 0) ∷ Write 1 (Out 1 2 1) ∷ Write 1 (Ric 2 2 1) ∷ Write 1 (Roc 1 1) ∷ Write 0 (Out 1 2 1) ∷ Remove 0 (Spill 1 1 1 0) ∷ Remove 0 (Spill 1 2 1 0) ∷ Remove 1 (Spill 1 2 1 1) ∷ Remove 0 (Out 1 1 0) ∷ Remove 1 (Out 1 1 1) ∷ Read 0 (Out 1 2 0) ∷ Write 0 (Spill 2 1 1 0) ∷ Read 0 (Blk 1 0) ∷ Write 0 (Spill 1 1 2 0) ∷ Read 0 (Out 1 2 1) ∷ Write 0 (Spill 2 1 1 1) ∷ Read 0 (Spill 2 1 1 0) ∷ Read 0 (Spill 2 1 1 1) ∷ Read 0 (Ric 1 2 0) ∷ Write 0 (Out 2 1 0) ∷ Read 0 (Spill 2 1 1 0) ∷ Read 0 (Spill 2 1 1 1) ∷ Read 0 (Spill 1 1 2 0) ∷ Write 0 (Out 2 1 1) ∷ Write 0 (Ric 1 2 1) ∷ Read 0 (Out 2 1 0) ∷ Write 0 (Spill 2 2 1 0) ∷ Read 0 (Out 2 1 1) ∷ Write 0 (Spill 2 2 1 1) ∷ Read 0 (Spill 2 2 1 0) ∷ Read 0 (Spill 2 2 1 1) ∷ Read 0 (Ric 2 2 0) ∷ Write 0 (Out 2 2 0) ∷ Write 0 (Roc 2 0) ∷ Read 0 (Spill 2 2 1 0) ∷ Read 0 (Spill 2 2 1 1) ∷ Read 0 (Spill 1 2 2 0) ∷ Write 0 (Out 2 2 1) ∷ Write 0 (Ric 2 2 1) ∷ Write 0 (Roc 2 1) ∷ Read 0 (Out 2 2 0) ∷ Read 0 (Roc 1 0) ∷ Read 0 (Out 2 2 1) ∷ Read 0 (Out 1 2 1) ∷ Remove 0 (Spill 2 1 1 0) ∷ Remove 0 (Spill 2 1 1 1) ∷ Remove 0 (Spill 2 2 1 0) ∷ Remove 0 (Spill 2 2 1 1) ∷ Remove 0 (Out 1 2 0) ∷ Remove 0 (Out 1 2 1) ∷ Remove 0 (Out 2 1 0) ∷ Remove 0 (Out 2 1 1) ∷ Remove 0 (Roc 1 0) ∷ Read 0 (Out 2 2 0) ∷ Write 0 (Spill 3 1 1 0) ∷ Read 0 (Out 2 2 1) ∷ Write 0 (Spill 3 1 1 1) ∷ Read 0 (Spill 3 1 1 0) ∷ Read 0 (Spill 3 1 1 1) ∷ Read 0 (Ric 1 2 0) ∷ Write 0 (Out 3 1 0) ∷ Read 0 (Spill 3 1 1 0) ∷ Read 0 (Spill 3 1 1 1) ∷ Read 0 (Ric 1 2 1) ∷ Write 0 (Out 3 1 1) ∷ Read 0 (Out 3 1 0) ∷ Write 0 (Spill 3 2 1 0) ∷ Read 0 (Out 3 1 1) ∷ Write 0 (Spill 3 2 1 1) ∷ Read 0 (Spill 3 2 1 0) ∷ Read 0 (Spill 3 2 1 1) ∷ Read 0 (Ric 2 2 0) ∷ Write 0 (Out 3 2 0) ∷ Write 0 (Roc 3 0) ∷ Read 0 (Spill 3 2 1 0) ∷ Read 0 (Spill 3 2 1 1) ∷ Read 0 (Ric 2 2 1) ∷ Write 0 (Out 3 2 1) ∷ Write 0 (Roc 3 1) ∷ Read 0 (Out 3 2 0) ∷ Read 0 (Roc 2 0) ∷ Read 0 (Out 3 2 1) ∷ Read 0 (Roc 2 1) ∷ Read 0 (Out 3 2 0) ∷ Read 0 (Out 3 2 1) ∷ []))
  pub cache_back : came (setup (hops 2) 2 2 (Round 2 ∷ Lose 1 ∷ Round 4 ∷ Back 1 ∷ [])) (None ∷ None ∷ None ∷ Some Fixpoint ∷ []) ([]) ≡ ((line.Round 1 ∷ line.Start (Map 1 1 1 0) 0 ∷ line.Start (Map 1 1 2 0) 1 ∷ line.Commit (Map 1 1 1 0) 0 1 0 0 ∷ line.Start (Map 1 2 2 0) 0 ∷ line.Commit (Map 1 2 2 0) 0 1 0 0 ∷ line.Commit (Map 1 1 2 0) 1 1 0 0 ∷ line.Start (Reduce 1 1 0) 0 ∷ line.Start (Reduce 1 1 1) 1 ∷ line.Commit (Reduce 1 1 0) 0 1 1 0 ∷ line.Start (Map 1 2 1 0) 0 ∷ line.Commit (Map 1 2 1 0) 0 1 0 0 ∷ line.Commit (Reduce 1 1 1) 1 1 1 0 ∷ line.Start (Map 1 2 1 1) 1 ∷ line.Commit (Map 1 2 1 1) 1 1 0 0 ∷ line.Start (Reduce 1 2 0) 0 ∷ line.Start (Reduce 1 2 1) 1 ∷ line.Commit (Reduce 1 2 0) 0 2 1 0 ∷ line.Commit (Reduce 1 2 1) 1 1 2 0 ∷ line.Round 2 ∷ line.Start (Map 2 1 1 0) 0 ∷ line.Start (Map 2 1 1 1) 1 ∷ line.Lose 1 ∷ line.Kill (Map 2 1 1 1) 1 ∷ line.Commit (Map 2 1 1 0) 0 1 0 0 ∷ line.Start (Map 1 1 2 0) 0 ∷ line.Commit (Map 1 1 2 0) 0 1 0 0 ∷ line.Start (Map 2 1 1 1) 0 ∷ line.Commit (Map 2 1 1 1) 0 1 0 0 ∷ line.Start (Reduce 2 1 0) 0 ∷ line.Commit (Reduce 2 1 0) 0 3 0 1 ∷ line.Start (Reduce 2 1 1) 0 ∷ line.Commit (Reduce 2 1 1) 0 3 0 0 ∷ line.Start (Map 2 2 1 0) 0 ∷ line.Commit (Map 2 2 1 0) 0 1 0 0 ∷ line.Start (Map 2 2 1 1) 0 ∷ line.Commit (Map 2 2 1 1) 0 1 0 0 ∷ line.Start (Reduce 2 2 0) 0 ∷ line.Commit (Reduce 2 2 0) 0 3 0 1 ∷ line.Start (Reduce 2 2 1) 0 ∷ line.Commit (Reduce 2 2 1) 0 3 0 0 ∷ line.Start (Test 2 0) 0 ∷ line.Commit (Test 2 0) 0 2 0 1 ∷ line.Start (Test 2 1) 0 ∷ line.Commit (Test 2 1) 0 2 0 0 ∷ line.Round 3 ∷ line.Start (Map 3 1 1 0) 0 ∷ line.Commit (Map 3 1 1 0) 0 1 0 0 ∷ line.Start (Map 3 1 1 1) 0 ∷ line.Commit (Map 3 1 1 1) 0 1 0 0 ∷ line.Start (Reduce 3 1 0) 0 ∷ line.Commit (Reduce 3 1 0) 0 3 0 1 ∷ line.Start (Reduce 3 1 1) 0 ∷ line.Commit (Reduce 3 1 1) 0 3 0 1 ∷ line.Start (Map 3 2 1 0) 0 ∷ line.Commit (Map 3 2 1 0) 0 1 0 0 ∷ line.Start (Map 3 2 1 1) 0 ∷ line.Commit (Map 3 2 1 1) 0 1 0 0 ∷ line.Start (Reduce 3 2 0) 0 ∷ line.Commit (Reduce 3 2 0) 0 3 0 1 ∷ line.Start (Reduce 3 2 1) 0 ∷ line.Commit (Reduce 3 2 1) 0 3 0 1 ∷ line.Start (Test 3 0) 0 ∷ line.Commit (Test 3 0) 0 2 0 1 ∷ line.Start (Test 3 1) 0 ∷ line.Commit (Test 3 1) 0 2 0 1 ∷ line.Round 4 ∷ line.Start (Map 4 1 1 0) 0 ∷ line.Back 1 ∷ line.Start (Map 4 1 1 1) 1 ∷ line.Commit (Map 4 1 1 0) 0 1 0 0 ∷ line.Commit (Map 4 1 1 1) 1 0 1 0 ∷ line.Start (Reduce 4 1 0) 0 ∷ line.Start (Reduce 4 1 1) 1 ∷ line.Commit (Reduce 4 1 0) 0 2 1 1 ∷ line.Start (Map 4 2 1 0) 0 ∷ line.Commit (Map 4 2 1 0) 0 1 0 0 ∷ line.Commit (Reduce 4 1 1) 1 2 1 1 ∷ line.Start (Map 4 2 1 1) 1 ∷ line.Commit (Map 4 2 1 1) 1 1 0 0 ∷ line.Start (Reduce 4 2 0) 0 ∷ line.Start (Reduce 4 2 1) 1 ∷ line.Commit (Reduce 4 2 0) 0 2 1 1 ∷ line.Start (Test 4 0) 0 ∷ line.Commit (Test 4 0) 0 2 0 1 ∷ line.Commit (Reduce 4 2 1) 1 2 1 1 ∷ line.Start (Test 4 1) 0 ∷ line.Commit (Test 4 1) 0 2 0 1 ∷ line.End Fixpoint 4 ∷ []), (Wipe 0 ∷ Wipe 1 ∷ Write 0 (Blk 0 0) ∷ Write 1 (Blk 0 0) ∷ Write 1 (Blk 1 0) ∷ Write 0 (Blk 1 0) ∷ Read 0 (Blk 0 0) ∷ Write 0 (Spill 1 1 1 0) ∷ Read 0 (Blk 0 0) ∷ Write 0 (Spill 1 2 2 0) ∷ Read 1 (Blk 1 0) ∷ Write 1 (Spill 1 1 2 0) ∷ Read 0 (Spill 1 1 1 0) ∷ Read 1 (Spill 1 1 2 0) ∷ Write 0 (Out 1 1 0) ∷ Write 0 (Ric 1 2 0) ∷ Read 0 (Out 1 1 0) ∷ Write 0 (Spill 1 2 1 0) ∷ Read 0 (Spill 1 1 1 0) ∷ Read 1 (Spill 1 1 2 0) ∷ Write 1 (Out 1 1 1) ∷ Write 1 (Ric 1 2 1) ∷ Read 1 (Out 1 1 1) ∷ Write 1 (Spill 1 2 1 1) ∷ Read 0 (Spill 1 2 1 0) ∷ Read 1 (Spill 1 2 1 1) ∷ Read 0 (Spill 1 2 2 0) ∷ Write 0 (Out 1 2 0) ∷ Write 0 (Ric 2 2 0) ∷ Write 0 (Roc 1 0) ∷ Write 1 (Out 1 2 0) ∷ Read 0 (Spill 1 2 1 0) ∷ Read 1 (Spill 1 2 1 1) ∷ Read 0 (Spill 1 2 2 0) ∷ Write 1 (Out 1 2 1) ∷ Write 1 (Ric 2 2 1) ∷ Write 1 (Roc 1 1) ∷ Write 0 (Out 1 2 1) ∷ Remove 0 (Spill 1 1 1 0) ∷ Remove 0 (Spill 1 2 1 0) ∷ Remove 1 (Spill 1 2 1 1) ∷ Remove 0 (Out 1 1 0) ∷ Remove 1 (Out 1 1 1) ∷ Read 0 (Out 1 2 0) ∷ Write 0 (Spill 2 1 1 0) ∷ Read 0 (Blk 1 0) ∷ Write 0 (Spill 1 1 2 0) ∷ Read 0 (Out 1 2 1) ∷ Write 0 (Spill 2 1 1 1) ∷ Read 0 (Spill 2 1 1 0) ∷ Read 0 (Spill 2 1 1 1) ∷ Read 0 (Ric 1 2 0) ∷ Write 0 (Out 2 1 0) ∷ Read 0 (Spill 2 1 1 0) ∷ Read 0 (Spill 2 1 1 1) ∷ Read 0 (Spill 1 1 2 0) ∷ Write 0 (Out 2 1 1) ∷ Write 0 (Ric 1 2 1) ∷ Read 0 (Out 2 1 0) ∷ Write 0 (Spill 2 2 1 0) ∷ Read 0 (Out 2 1 1) ∷ Write 0 (Spill 2 2 1 1) ∷ Read 0 (Spill 2 2 1 0) ∷ Read 0 (Spill 2 2 1 1) ∷ Read 0 (Ric 2 2 0) ∷ Write 0 (Out 2 2 0) ∷ Write 0 (Roc 2 0) ∷ Read 0 (Spill 2 2 1 0) ∷ Read 0 (Spill 2 2 1 1) ∷ Read 0 (Spill 1 2 2 0) ∷ Write 0 (Out 2 2 1) ∷ Write 0 (Ric 2 2 1) ∷ Write 0 (Roc 2 1) ∷ Read 0 (Out 2 2 0) ∷ Read 0 (Roc 1 0) ∷ Read 0 (Out 2 2 1) ∷ Read 0 (Out 1 2 1) ∷ Remove 0 (Spill 2 1 1 0) ∷ Remove 0 (Spill 2 1 1 1) ∷ Remove 0 (Spill 2 2 1 0) ∷ Remove 0 (Spill 2 2 1 1) ∷ Remove 0 (Out 1 2 0) ∷ Remove 0 (Out 1 2 1) ∷ Remove 0 (Out 2 1 0) ∷ Remove 0 (Out 2 1 1) ∷ Remove 0 (Roc 1 0) ∷ Read 0 (Out 2 2 0) ∷ Write 0 (Spill 3 1 1 0) ∷ Read 0 (Out 2 2 1) ∷ Write 0 (Spill 3 1 1 1) ∷ Read 0 (Spill 3 1 1 0) ∷ Read 0 (Spill 3 1 1 1) ∷ Read 0 (Ric 1 2 0) ∷ Write 0 (Out 3 1 0) ∷ Read 0 (Spill 3 1 1 0) ∷ Read 0 (Spill 3 1 1 1) ∷ Read 0 (Ric 1 2 1) ∷ Write 0 (Out 3 1 1) ∷ Read 0 (Out 3 1 0) ∷ Write 0 (Spill 3 2 1 0) ∷ Read 0 (Out 3 1 1) ∷ Write 0 (Spill 3 2 1 1) ∷ Read 0 (Spill 3 2 1 0) ∷ Read 0 (Spill 3 2 1 1) ∷ Read 0 (Ric 2 2 0) ∷ Write 0 (Out 3 2 0) ∷ Write 0 (Roc 3 0) ∷ Read 0 (Spill 3 2 1 0) ∷ Read 0 (Spill 3 2 1 1) ∷ Read 0 (Ric 2 2 1) ∷ Write 0 (Out 3 2 1) ∷ Write 0 (Roc 3 1) ∷ Read 0 (Out 3 2 0) ∷ Read 0 (Roc 2 0) ∷ Read 0 (Out 3 2 1) ∷ Read 0 (Roc 2 1) ∷ Remove 0 (Spill 3 1 1 0) ∷ Remove 0 (Spill 3 1 1 1) ∷ Remove 0 (Spill 3 2 1 0) ∷ Remove 0 (Spill 3 2 1 1) ∷ Remove 0 (Out 2 2 0) ∷ Remove 0 (Out 2 2 1) ∷ Remove 0 (Out 3 1 0) ∷ Remove 0 (Out 3 1 1) ∷ Remove 0 (Roc 2 0) ∷ Remove 0 (Roc 2 1) ∷ Remove 1 (Out 1 2 0) ∷ Remove 1 (Out 1 2 1) ∷ Remove 1 (Roc 1 1) ∷ Read 0 (Out 3 2 0) ∷ Write 0 (Spill 4 1 1 0) ∷ Read 0 (Out 3 2 1) ∷ Write 1 (Spill 4 1 1 1) ∷ Read 0 (Spill 4 1 1 0) ∷ Read 1 (Spill 4 1 1 1) ∷ Read 0 (Ric 1 2 0) ∷ Write 0 (Out 4 1 0) ∷ Read 0 (Out 4 1 0) ∷ Write 0 (Spill 4 2 1 0) ∷ Read 0 (Spill 4 1 1 0) ∷ Read 1 (Spill 4 1 1 1) ∷ Read 1 (Ric 1 2 1) ∷ Write 1 (Out 4 1 1) ∷ Read 1 (Out 4 1 1) ∷ Write 1 (Spill 4 2 1 1) ∷ Read 0 (Spill 4 2 1 0) ∷ Read 1 (Spill 4 2 1 1) ∷ Read 0 (Ric 2 2 0) ∷ Write 0 (Out 4 2 0) ∷ Write 0 (Roc 4 0) ∷ Write 1 (Out 4 2 0) ∷ Read 0 (Out 4 2 0) ∷ Read 0 (Roc 3 0) ∷ Read 0 (Spill 4 2 1 0) ∷ Read 1 (Spill 4 2 1 1) ∷ Read 1 (Ric 2 2 1) ∷ Write 1 (Out 4 2 1) ∷ Write 1 (Roc 4 1) ∷ Write 0 (Out 4 2 1) ∷ Read 0 (Out 4 2 1) ∷ Read 0 (Roc 3 1) ∷ Read 0 (Out 4 2 0) ∷ Read 0 (Out 4 2 1) ∷ []))
  pub wiped_and_back : came (setup (hops 2) 2 2 (Round 2 ∷ Lose 1 ∷ event.Wipe 1 ∷ Back 1 ∷ [])) (None ∷ None ∷ Some Fixpoint ∷ []) ([]) ≡ ((line.Round 1 ∷ line.Start (Map 1 1 1 0) 0 ∷ line.Start (Map 1 1 2 0) 1 ∷ line.Commit (Map 1 1 1 0) 0 1 0 0 ∷ line.Start (Map 1 2 2 0) 0 ∷ line.Commit (Map 1 2 2 0) 0 1 0 0 ∷ line.Commit (Map 1 1 2 0) 1 1 0 0 ∷ line.Start (Reduce 1 1 0) 0 ∷ line.Start (Reduce 1 1 1) 1 ∷ line.Commit (Reduce 1 1 0) 0 1 1 0 ∷ line.Start (Map 1 2 1 0) 0 ∷ line.Commit (Map 1 2 1 0) 0 1 0 0 ∷ line.Commit (Reduce 1 1 1) 1 1 1 0 ∷ line.Start (Map 1 2 1 1) 1 ∷ line.Commit (Map 1 2 1 1) 1 1 0 0 ∷ line.Start (Reduce 1 2 0) 0 ∷ line.Start (Reduce 1 2 1) 1 ∷ line.Commit (Reduce 1 2 0) 0 2 1 0 ∷ line.Commit (Reduce 1 2 1) 1 1 2 0 ∷ line.Round 2 ∷ line.Start (Map 2 1 1 0) 0 ∷ line.Start (Map 2 1 1 1) 1 ∷ line.Lose 1 ∷ line.Kill (Map 2 1 1 1) 1 ∷ line.Wipe 1 ∷ line.Back 1 ∷ line.Start (Map 1 1 2 0) 1 ∷ line.Commit (Map 2 1 1 0) 0 1 0 0 ∷ line.Start (Map 2 1 1 1) 0 ∷ line.Commit (Map 2 1 1 1) 0 1 0 0 ∷ line.Start (Reduce 2 1 0) 0 ∷ line.Commit (Reduce 2 1 0) 0 3 0 1 ∷ line.Start (Map 2 2 1 0) 0 ∷ line.Commit (Map 2 2 1 0) 0 1 0 0 ∷ line.Commit (Map 1 1 2 0) 1 0 1 0 ∷ line.Start (Reduce 2 1 1) 1 ∷ line.Commit (Reduce 2 1 1) 1 1 2 0 ∷ line.Start (Map 2 2 1 1) 1 ∷ line.Commit (Map 2 2 1 1) 1 1 0 0 ∷ line.Start (Reduce 2 2 0) 0 ∷ line.Start (Reduce 2 2 1) 1 ∷ line.Commit (Reduce 2 2 0) 0 2 1 1 ∷ line.Start (Test 2 0) 0 ∷ line.Commit (Test 2 0) 0 2 0 1 ∷ line.Commit (Reduce 2 2 1) 1 1 2 0 ∷ line.Start (Test 2 1) 0 ∷ line.Commit (Test 2 1) 0 2 0 0 ∷ line.Round 3 ∷ line.Start (Map 3 1 1 0) 0 ∷ line.Start (Map 3 1 1 1) 1 ∷ line.Commit (Map 3 1 1 0) 0 1 0 0 ∷ line.Commit (Map 3 1 1 1) 1 1 0 0 ∷ line.Start (Reduce 3 1 0) 0 ∷ line.Start (Reduce 3 1 1) 1 ∷ line.Commit (Reduce 3 1 0) 0 2 1 1 ∷ line.Start (Map 3 2 1 0) 0 ∷ line.Commit (Map 3 2 1 0) 0 1 0 0 ∷ line.Commit (Reduce 3 1 1) 1 2 1 1 ∷ line.Start (Map 3 2 1 1) 1 ∷ line.Commit (Map 3 2 1 1) 1 1 0 0 ∷ line.Start (Reduce 3 2 0) 0 ∷ line.Start (Reduce 3 2 1) 1 ∷ line.Commit (Reduce 3 2 0) 0 2 1 1 ∷ line.Start (Test 3 0) 0 ∷ line.Commit (Test 3 0) 0 2 0 1 ∷ line.Commit (Reduce 3 2 1) 1 2 1 1 ∷ line.Start (Test 3 1) 1 ∷ line.Commit (Test 3 1) 1 2 0 1 ∷ line.End Fixpoint 3 ∷ []), (Wipe 0 ∷ Wipe 1 ∷ Write 0 (Blk 0 0) ∷ Write 1 (Blk 0 0) ∷ Write 1 (Blk 1 0) ∷ Write 0 (Blk 1 0) ∷ Read 0 (Blk 0 0) ∷ Write 0 (Spill 1 1 1 0) ∷ Read 0 (Blk 0 0) ∷ Write 0 (Spill 1 2 2 0) ∷ Read 1 (Blk 1 0) ∷ Write 1 (Spill 1 1 2 0) ∷ Read 0 (Spill 1 1 1 0) ∷ Read 1 (Spill 1 1 2 0) ∷ Write 0 (Out 1 1 0) ∷ Write 0 (Ric 1 2 0) ∷ Read 0 (Out 1 1 0) ∷ Write 0 (Spill 1 2 1 0) ∷ Read 0 (Spill 1 1 1 0) ∷ Read 1 (Spill 1 1 2 0) ∷ Write 1 (Out 1 1 1) ∷ Write 1 (Ric 1 2 1) ∷ Read 1 (Out 1 1 1) ∷ Write 1 (Spill 1 2 1 1) ∷ Read 0 (Spill 1 2 1 0) ∷ Read 1 (Spill 1 2 1 1) ∷ Read 0 (Spill 1 2 2 0) ∷ Write 0 (Out 1 2 0) ∷ Write 0 (Ric 2 2 0) ∷ Write 0 (Roc 1 0) ∷ Write 1 (Out 1 2 0) ∷ Read 0 (Spill 1 2 1 0) ∷ Read 1 (Spill 1 2 1 1) ∷ Read 0 (Spill 1 2 2 0) ∷ Write 1 (Out 1 2 1) ∷ Write 1 (Ric 2 2 1) ∷ Write 1 (Roc 1 1) ∷ Write 0 (Out 1 2 1) ∷ Remove 0 (Spill 1 1 1 0) ∷ Remove 0 (Spill 1 2 1 0) ∷ Remove 1 (Spill 1 2 1 1) ∷ Remove 0 (Out 1 1 0) ∷ Remove 1 (Out 1 1 1) ∷ Wipe 1 ∷ Read 0 (Out 1 2 0) ∷ Write 0 (Spill 2 1 1 0) ∷ Read 0 (Out 1 2 1) ∷ Write 0 (Spill 2 1 1 1) ∷ Read 0 (Spill 2 1 1 0) ∷ Read 0 (Spill 2 1 1 1) ∷ Read 0 (Ric 1 2 0) ∷ Write 0 (Out 2 1 0) ∷ Read 0 (Out 2 1 0) ∷ Write 0 (Spill 2 2 1 0) ∷ Read 0 (Blk 1 0) ∷ Write 1 (Spill 1 1 2 0) ∷ Read 0 (Spill 2 1 1 0) ∷ Read 0 (Spill 2 1 1 1) ∷ Read 1 (Spill 1 1 2 0) ∷ Write 1 (Out 2 1 1) ∷ Write 1 (Ric 1 2 1) ∷ Read 1 (Out 2 1 1) ∷ Write 1 (Spill 2 2 1 1) ∷ Read 0 (Spill 2 2 1 0) ∷ Read 1 (Spill 2 2 1 1) ∷ Read 0 (Ric 2 2 0) ∷ Write 0 (Out 2 2 0) ∷ Write 0 (Roc 2 0) ∷ Write 1 (Out 2 2 0) ∷ Read 0 (Out 2 2 0) ∷ Read 0 (Roc 1 0) ∷ Read 0 (Spill 2 2 1 0) ∷ Read 1 (Spill 2 2 1 1) ∷ Read 0 (Spill 1 2 2 0) ∷ Write 1 (Out 2 2 1) ∷ Write 1 (Ric 2 2 1) ∷ Write 1 (Roc 2 1) ∷ Write 0 (Out 2 2 1) ∷ Read 0 (Out 2 2 1) ∷ Read 0 (Out 1 2 1) ∷ Remove 0 (Spill 2 1 1 0) ∷ Remove 0 (Spill 2 1 1 1) ∷ Remove 0 (Spill 2 2 1 0) ∷ Remove 1 (Spill 2 2 1 1) ∷ Remove 0 (Out 1 2 0) ∷ Remove 0 (Out 1 2 1) ∷ Remove 0 (Out 2 1 0) ∷ Remove 1 (Out 2 1 1) ∷ Remove 0 (Roc 1 0) ∷ Read 0 (Out 2 2 0) ∷ Write 0 (Spill 3 1 1 0) ∷ Read 1 (Out 2 2 1) ∷ Write 1 (Spill 3 1 1 1) ∷ Read 0 (Spill 3 1 1 0) ∷ Read 1 (Spill 3 1 1 1) ∷ Read 0 (Ric 1 2 0) ∷ Write 0 (Out 3 1 0) ∷ Read 0 (Out 3 1 0) ∷ Write 0 (Spill 3 2 1 0) ∷ Read 0 (Spill 3 1 1 0) ∷ Read 1 (Spill 3 1 1 1) ∷ Read 1 (Ric 1 2 1) ∷ Write 1 (Out 3 1 1) ∷ Read 1 (Out 3 1 1) ∷ Write 1 (Spill 3 2 1 1) ∷ Read 0 (Spill 3 2 1 0) ∷ Read 1 (Spill 3 2 1 1) ∷ Read 0 (Ric 2 2 0) ∷ Write 0 (Out 3 2 0) ∷ Write 0 (Roc 3 0) ∷ Write 1 (Out 3 2 0) ∷ Read 0 (Out 3 2 0) ∷ Read 0 (Roc 2 0) ∷ Read 0 (Spill 3 2 1 0) ∷ Read 1 (Spill 3 2 1 1) ∷ Read 1 (Ric 2 2 1) ∷ Write 1 (Out 3 2 1) ∷ Write 1 (Roc 3 1) ∷ Write 0 (Out 3 2 1) ∷ Read 1 (Out 3 2 1) ∷ Read 1 (Roc 2 1) ∷ Read 0 (Out 3 2 0) ∷ Read 0 (Out 3 2 1) ∷ []))
  pub far_back : came (kept_every 3 (setup (hops 2) 2 2 (Round 5 ∷ Lose 1 ∷ []))) (None ∷ None ∷ None ∷ None ∷ Some Fixpoint ∷ []) ([]) ≡ ((line.Round 1 ∷ line.Start (Map 1 1 1 0) 0 ∷ line.Start (Map 1 1 2 0) 1 ∷ line.Commit (Map 1 1 1 0) 0 1 0 0 ∷ line.Start (Map 1 2 2 0) 0 ∷ line.Commit (Map 1 2 2 0) 0 1 0 0 ∷ line.Commit (Map 1 1 2 0) 1 1 0 0 ∷ line.Start (Reduce 1 1 0) 0 ∷ line.Start (Reduce 1 1 1) 1 ∷ line.Commit (Reduce 1 1 0) 0 1 1 0 ∷ line.Start (Map 1 2 1 0) 0 ∷ line.Commit (Map 1 2 1 0) 0 1 0 0 ∷ line.Commit (Reduce 1 1 1) 1 1 1 0 ∷ line.Start (Map 1 2 1 1) 1 ∷ line.Commit (Map 1 2 1 1) 1 1 0 0 ∷ line.Start (Reduce 1 2 0) 0 ∷ line.Start (Reduce 1 2 1) 1 ∷ line.Commit (Reduce 1 2 0) 0 2 1 0 ∷ line.Commit (Reduce 1 2 1) 1 1 2 0 ∷ line.Round 2 ∷ line.Start (Map 2 1 1 0) 0 ∷ line.Start (Map 2 1 1 1) 1 ∷ line.Commit (Map 2 1 1 0) 0 1 0 0 ∷ line.Commit (Map 2 1 1 1) 1 1 0 0 ∷ line.Start (Reduce 2 1 0) 0 ∷ line.Start (Reduce 2 1 1) 1 ∷ line.Commit (Reduce 2 1 0) 0 2 1 1 ∷ line.Start (Map 2 2 1 0) 0 ∷ line.Commit (Map 2 2 1 0) 0 1 0 0 ∷ line.Commit (Reduce 2 1 1) 1 2 1 1 ∷ line.Start (Map 2 2 1 1) 1 ∷ line.Commit (Map 2 2 1 1) 1 1 0 0 ∷ line.Start (Reduce 2 2 0) 0 ∷ line.Start (Reduce 2 2 1) 1 ∷ line.Commit (Reduce 2 2 0) 0 2 1 1 ∷ line.Start (Test 2 0) 0 ∷ line.Commit (Test 2 0) 0 2 0 1 ∷ line.Commit (Reduce 2 2 1) 1 2 1 1 ∷ line.Start (Test 2 1) 1 ∷ line.Commit (Test 2 1) 1 2 0 1 ∷ line.Round 3 ∷ line.Start (Map 3 1 1 0) 0 ∷ line.Start (Map 3 1 1 1) 1 ∷ line.Commit (Map 3 1 1 0) 0 1 0 0 ∷ line.Commit (Map 3 1 1 1) 1 1 0 0 ∷ line.Start (Reduce 3 1 0) 0 ∷ line.Start (Reduce 3 1 1) 1 ∷ line.Commit (Reduce 3 1 0) 0 2 1 1 ∷ line.Start (Map 3 2 1 0) 0 ∷ line.Commit (Map 3 2 1 0) 0 1 0 0 ∷ line.Commit (Reduce 3 1 1) 1 2 1 1 ∷ line.Start (Map 3 2 1 1) 1 ∷ line.Commit (Map 3 2 1 1) 1 1 0 0 ∷ line.Start (Reduce 3 2 0) 0 ∷ line.Start (Reduce 3 2 1) 1 ∷ line.Commit (Reduce 3 2 0) 0 2 1 1 ∷ line.Start (Test 3 0) 0 ∷ line.Commit (Test 3 0) 0 2 0 1 ∷ line.Commit (Reduce 3 2 1) 1 2 1 1 ∷ line.Start (Test 3 1) 1 ∷ line.Commit (Test 3 1) 1 2 0 1 ∷ line.Round 4 ∷ line.Start (Map 4 1 1 0) 0 ∷ line.Start (Map 4 1 1 1) 1 ∷ line.Commit (Map 4 1 1 0) 0 1 0 0 ∷ line.Commit (Map 4 1 1 1) 1 1 0 0 ∷ line.Start (Reduce 4 1 0) 0 ∷ line.Start (Reduce 4 1 1) 1 ∷ line.Commit (Reduce 4 1 0) 0 2 1 1 ∷ line.Start (Map 4 2 1 0) 0 ∷ line.Commit (Map 4 2 1 0) 0 1 0 0 ∷ line.Commit (Reduce 4 1 1) 1 2 1 1 ∷ line.Start (Map 4 2 1 1) 1 ∷ line.Commit (Map 4 2 1 1) 1 1 0 0 ∷ line.Start (Reduce 4 2 0) 0 ∷ line.Start (Reduce 4 2 1) 1 ∷ line.Commit (Reduce 4 2 0) 0 2 1 1 ∷ line.Start (Test 4 0) 0 ∷ line.Commit (Test 4 0) 0 2 0 1 ∷ line.Commit (Reduce 4 2 1) 1 2 1 1 ∷ line.Start (Test 4 1) 1 ∷ line.Commit (Test 4 1) 1 2 0 1 ∷ line.Round 5 ∷ line.Start (Map 5 1 1 0) 0 ∷ line.Start (Map 5 1 1 1) 1 ∷ line.Lose 1 ∷ line.Kill (Map 5 1 1 1) 1 ∷ line.Commit (Map 5 1 1 0) 0 1 0 0 ∷ line.Start (Map 1 1 2 0) 0 ∷ line.Commit (Map 1 1 2 0) 0 1 0 0 ∷ line.Start (Map 4 1 1 0) 0 ∷ line.Commit (Map 4 1 1 0) 0 1 0 0 ∷ line.Start (Map 4 1 1 1) 0 ∷ line.Commit (Map 4 1 1 1) 0 1 0 0 ∷ line.Start (Reduce 4 1 0) 0 ∷ line.Commit (Reduce 4 1 0) 0 3 0 1 ∷ line.Start (Reduce 4 1 1) 0 ∷ line.Commit (Reduce 4 1 1) 0 3 0 0 ∷ line.Start (Map 4 2 1 0) 0 ∷ line.Commit (Map 4 2 1 0) 0 1 0 0 ∷ line.Start (Map 4 2 1 1) 0 ∷ line.Commit (Map 4 2 1 1) 0 1 0 0 ∷ line.Start (Reduce 4 2 1) 0 ∷ line.Commit (Reduce 4 2 1) 0 3 0 0 ∷ line.Start (Map 5 1 1 1) 0 ∷ line.Commit (Map 5 1 1 1) 0 1 0 0 ∷ line.Start (Reduce 5 1 0) 0 ∷ line.Commit (Reduce 5 1 0) 0 3 0 1 ∷ line.Start (Reduce 5 1 1) 0 ∷ line.Commit (Reduce 5 1 1) 0 3 0 1 ∷ line.Start (Map 5 2 1 0) 0 ∷ line.Commit (Map 5 2 1 0) 0 1 0 0 ∷ line.Start (Map 5 2 1 1) 0 ∷ line.Commit (Map 5 2 1 1) 0 1 0 0 ∷ line.Start (Reduce 5 2 0) 0 ∷ line.Commit (Reduce 5 2 0) 0 3 0 1 ∷ line.Start (Reduce 5 2 1) 0 ∷ line.Commit (Reduce 5 2 1) 0 3 0 1 ∷ line.Start (Test 5 0) 0 ∷ line.Commit (Test 5 0) 0 2 0 1 ∷ line.Start (Test 5 1) 0 ∷ line.Commit (Test 5 1) 0 2 0 0 ∷ line.End Fixpoint 5 ∷ []), (Wipe 0 ∷ Wipe 1 ∷ Write 0 (Blk 0 0) ∷ Write 1 (Blk 0 0) ∷ Write 1 (Blk 1 0) ∷ Write 0 (Blk 1 0) ∷ Read 0 (Blk 0 0) ∷ Write 0 (Spill 1 1 1 0) ∷ Read 0 (Blk 0 0) ∷ Write 0 (Spill 1 2 2 0) ∷ Read 1 (Blk 1 0) ∷ Write 1 (Spill 1 1 2 0) ∷ Read 0 (Spill 1 1 1 0) ∷ Read 1 (Spill 1 1 2 0) ∷ Write 0 (Out 1 1 0) ∷ Write 0 (Ric 1 2 0) ∷ Read 0 (Out 1 1 0) ∷ Write 0 (Spill 1 2 1 0) ∷ Read 0 (Spill 1 1 1 0) ∷ Read 1 (Spill 1 1 2 0) ∷ Write 1 (Out 1 1 1) ∷ Write 1 (Ric 1 2 1) ∷ Read 1 (Out 1 1 1) ∷ Write 1 (Spill 1 2 1 1) ∷ Read 0 (Spill 1 2 1 0) ∷ Read 1 (Spill 1 2 1 1) ∷ Read 0 (Spill 1 2 2 0) ∷ Write 0 (Out 1 2 0) ∷ Write 0 (Ric 2 2 0) ∷ Write 0 (Roc 1 0) ∷ Read 0 (Spill 1 2 1 0) ∷ Read 1 (Spill 1 2 1 1) ∷ Read 0 (Spill 1 2 2 0) ∷ Write 1 (Out 1 2 1) ∷ Write 1 (Ric 2 2 1) ∷ Write 1 (Roc 1 1) ∷ Remove 0 (Spill 1 1 1 0) ∷ Remove 0 (Spill 1 2 1 0) ∷ Remove 1 (Spill 1 2 1 1) ∷ Remove 0 (Out 1 1 0) ∷ Remove 1 (Out 1 1 1) ∷ Read 0 (Out 1 2 0) ∷ Write 0 (Spill 2 1 1 0) ∷ Read 1 (Out 1 2 1) ∷ Write 1 (Spill 2 1 1 1) ∷ Read 0 (Spill 2 1 1 0) ∷ Read 1 (Spill 2 1 1 1) ∷ Read 0 (Ric 1 2 0) ∷ Write 0 (Out 2 1 0) ∷ Read 0 (Out 2 1 0) ∷ Write 0 (Spill 2 2 1 0) ∷ Read 0 (Spill 2 1 1 0) ∷ Read 1 (Spill 2 1 1 1) ∷ Read 1 (Ric 1 2 1) ∷ Write 1 (Out 2 1 1) ∷ Read 1 (Out 2 1 1) ∷ Write 1 (Spill 2 2 1 1) ∷ Read 0 (Spill 2 2 1 0) ∷ Read 1 (Spill 2 2 1 1) ∷ Read 0 (Ric 2 2 0) ∷ Write 0 (Out 2 2 0) ∷ Write 0 (Roc 2 0) ∷ Read 0 (Out 2 2 0) ∷ Read 0 (Roc 1 0) ∷ Read 0 (Spill 2 2 1 0) ∷ Read 1 (Spill 2 2 1 1) ∷ Read 1 (Ric 2 2 1) ∷ Write 1 (Out 2 2 1) ∷ Write 1 (Roc 2 1) ∷ Read 1 (Out 2 2 1) ∷ Read 1 (Roc 1 1) ∷ Remove 0 (Spill 2 1 1 0) ∷ Remove 1 (Spill 2 1 1 1) ∷ Remove 0 (Spill 2 2 1 0) ∷ Remove 1 (Spill 2 2 1 1) ∷ Remove 0 (Out 2 1 0) ∷ Remove 1 (Out 2 1 1) ∷ Remove 0 (Roc 1 0) ∷ Remove 1 (Roc 1 1) ∷ Read 0 (Out 2 2 0) ∷ Write 0 (Spill 3 1 1 0) ∷ Read 1 (Out 2 2 1) ∷ Write 1 (Spill 3 1 1 1) ∷ Read 0 (Spill 3 1 1 0) ∷ Read 1 (Spill 3 1 1 1) ∷ Read 0 (Ric 1 2 0) ∷ Write 0 (Out 3 1 0) ∷ Read 0 (Out 3 1 0) ∷ Write 0 (Spill 3 2 1 0) ∷ Read 0 (Spill 3 1 1 0) ∷ Read 1 (Spill 3 1 1 1) ∷ Read 1 (Ric 1 2 1) ∷ Write 1 (Out 3 1 1) ∷ Read 1 (Out 3 1 1) ∷ Write 1 (Spill 3 2 1 1) ∷ Read 0 (Spill 3 2 1 0) ∷ Read 1 (Spill 3 2 1 1) ∷ Read 0 (Ric 2 2 0) ∷ Write 0 (Out 3 2 0) ∷ Write 0 (Roc 3 0) ∷ Write 1 (Out 3 2 0) ∷ Read 0 (Out 3 2 0) ∷ Read 0 (Roc 2 0) ∷ Read 0 (Spill 3 2 1 0) ∷ Read 1 (Spill 3 2 1 1) ∷ Read 1 (Ric 2 2 1) ∷ Write 1 (Out 3 2 1) ∷ Write 1 (Roc 3 1) ∷ Write 0 (Out 3 2 1) ∷ Read 1 (Out 3 2 1) ∷ Read 1 (Roc 2 1) ∷ Remove 0 (Spill 3 1 1 0) ∷ Remove 1 (Spill 3 1 1 1) ∷ Remove 0 (Spill 3 2 1 0) ∷ Remove 1 (Spill 3 2 1 1) ∷ Remove 0 (Out 1 2 0) ∷ Remove 1 (Out 1 2 1) ∷ Remove 0 (Out 2 2 0) ∷ Remove 1 (Out 2 2 1) ∷ Remove 0 (Out 3 1 0) ∷ Remove 1 (Out 3 1 1) ∷ Remove 0 (Roc 2 0) ∷ Remove 1 (Roc 2 1) ∷ Read 0 (Out 3 2 0) ∷ Write 0 (Spill 4 1 1 0) ∷ Read 1 (Out 3 2 1) ∷ Write 1 (Spill 4 1 1 1) ∷ Read 0 (Spill 4 1 1 0) ∷ Read 1 (Spill 4 1 1 1) ∷ Read 0 (Ric 1 2 0) ∷ Write 0 (Out 4 1 0) ∷ Read 0 (Out 4 1 0) ∷ Write 0 (Spill 4 2 1 0) ∷ Read 0 (Spill 4 1 1 0) ∷ Read 1 (Spill 4 1 1 1) ∷ Read 1 (Ric 1 2 1) ∷ Write 1 (Out 4 1 1) ∷ Read 1 (Out 4 1 1) ∷ Write 1 (Spill 4 2 1 1) ∷ Read 0 (Spill 4 2 1 0) ∷ Read 1 (Spill 4 2 1 1) ∷ Read 0 (Ric 2 2 0) ∷ Write 0 (Out 4 2 0) ∷ Write 0 (Roc 4 0) ∷ Read 0 (Out 4 2 0) ∷ Read 0 (Roc 3 0) ∷ Read 0 (Spill 4 2 1 0) ∷ Read 1 (Spill 4 2 1 1) ∷ Read 1 (Ric 2 2 1) ∷ Write 1 (Out 4 2 1) ∷ Write 1 (Roc 4 1) ∷ Read 1 (Out 4 2 1) ∷ Read 1 (Roc 3 1) ∷ Remove 0 (Spill 4 1 1 0) ∷ Remove 1 (Spill 4 1 1 1) ∷ Remove 0 (Spill 4 2 1 0) ∷ Remove 1 (Spill 4 2 1 1) ∷ Remove 0 (Out 4 1 0) ∷ Remove 1 (Out 4 1 1) ∷ Remove 0 (Roc 3 0) ∷ Remove 1 (Roc 3 1) ∷ Read 0 (Out 4 2 0) ∷ Write 0 (Spill 5 1 1 0) ∷ Read 0 (Blk 1 0) ∷ Write 0 (Spill 1 1 2 0) ∷ Read 0 (Out 3 2 0) ∷ Write 0 (Spill 4 1 1 0) ∷ Read 0 (Out 3 2 1) ∷ Write 0 (Spill 4 1 1 1) ∷ Read 0 (Spill 4 1 1 0) ∷ Read 0 (Spill 4 1 1 1) ∷ Read 0 (Ric 1 2 0) ∷ Write 0 (Out 4 1 0) ∷ Read 0 (Spill 4 1 1 0) ∷ Read 0 (Spill 4 1 1 1) ∷ Read 0 (Spill 1 1 2 0) ∷ Write 0 (Out 4 1 1) ∷ Write 0 (Ric 1 2 1) ∷ Read 0 (Out 4 1 0) ∷ Write 0 (Spill 4 2 1 0) ∷ Read 0 (Out 4 1 1) ∷ Write 0 (Spill 4 2 1 1) ∷ Read 0 (Spill 4 2 1 0) ∷ Read 0 (Spill 4 2 1 1) ∷ Read 0 (Spill 1 2 2 0) ∷ Write 0 (Out 4 2 1) ∷ Write 0 (Ric 2 2 1) ∷ Read 0 (Out 4 2 1) ∷ Write 0 (Spill 5 1 1 1) ∷ Read 0 (Spill 5 1 1 0) ∷ Read 0 (Spill 5 1 1 1) ∷ Read 0 (Ric 1 2 0) ∷ Write 0 (Out 5 1 0) ∷ Read 0 (Spill 5 1 1 0) ∷ Read 0 (Spill 5 1 1 1) ∷ Read 0 (Ric 1 2 1) ∷ Write 0 (Out 5 1 1) ∷ Read 0 (Out 5 1 0) ∷ Write 0 (Spill 5 2 1 0) ∷ Read 0 (Out 5 1 1) ∷ Write 0 (Spill 5 2 1 1) ∷ Read 0 (Spill 5 2 1 0) ∷ Read 0 (Spill 5 2 1 1) ∷ Read 0 (Ric 2 2 0) ∷ Write 0 (Out 5 2 0) ∷ Write 0 (Roc 5 0) ∷ Read 0 (Spill 5 2 1 0) ∷ Read 0 (Spill 5 2 1 1) ∷ Read 0 (Ric 2 2 1) ∷ Write 0 (Out 5 2 1) ∷ Write 0 (Roc 5 1) ∷ Read 0 (Out 5 2 0) ∷ Read 0 (Roc 4 0) ∷ Read 0 (Out 5 2 1) ∷ Read 0 (Out 4 2 1) ∷ Read 0 (Out 5 2 0) ∷ Read 0 (Out 5 2 1) ∷ []))
  pub two_misses : came (setup (hops 2) 2 2 []) (None ∷ None ∷ Some Fixpoint ∷ []) (false ∷ false ∷ true ∷ false ∷ false ∷ false ∷ false ∷ false ∷ false ∷ false ∷ false ∷ false ∷ false ∷ false ∷ false ∷ false ∷ false ∷ false ∷ false ∷ false ∷ true ∷ false ∷ false ∷ false ∷ false ∷ false ∷ false ∷ false ∷ false ∷ false ∷ false ∷ false ∷ false ∷ false ∷ false ∷ false ∷ false ∷ false ∷ false ∷ false ∷ false ∷ false ∷ false ∷ false ∷ false ∷ false ∷ false ∷ false ∷ false ∷ false ∷ false ∷ false ∷ false ∷ false ∷ false ∷ false ∷ false ∷ false ∷ false ∷ []) ≡ ((line.Round 1 ∷ line.Start (Map 1 1 1 0) 0 ∷ line.Start (Map 1 1 2 0) 1 ∷ line.Commit (Map 1 1 1 0) 0 1 0 0 ∷ line.Start (Map 1 2 2 0) 0 ∷ line.Commit (Map 1 2 2 0) 0 1 0 0 ∷ line.Struck (Blk 1 0) 1 ∷ line.Commit (Map 1 1 2 0) 1 0 1 0 ∷ line.Start (Reduce 1 1 0) 0 ∷ line.Start (Reduce 1 1 1) 1 ∷ line.Commit (Reduce 1 1 0) 0 1 1 0 ∷ line.Start (Map 1 2 1 0) 0 ∷ line.Commit (Map 1 2 1 0) 0 1 0 0 ∷ line.Commit (Reduce 1 1 1) 1 1 1 0 ∷ line.Start (Map 1 2 1 1) 1 ∷ line.Commit (Map 1 2 1 1) 1 1 0 0 ∷ line.Start (Reduce 1 2 0) 0 ∷ line.Start (Reduce 1 2 1) 1 ∷ line.Commit (Reduce 1 2 0) 0 2 1 0 ∷ line.Commit (Reduce 1 2 1) 1 1 2 0 ∷ line.Round 2 ∷ line.Start (Map 2 1 1 0) 0 ∷ line.Start (Map 2 1 1 1) 1 ∷ line.Commit (Map 2 1 1 0) 0 1 0 0 ∷ line.Commit (Map 2 1 1 1) 1 1 0 0 ∷ line.Start (Reduce 2 1 0) 0 ∷ line.Start (Reduce 2 1 1) 1 ∷ line.Struck (Ric 1 2 0) 0 ∷ line.Commit (Reduce 2 1 0) 0 1 2 0 ∷ line.Start (Map 2 2 1 0) 0 ∷ line.Commit (Map 2 2 1 0) 0 1 0 0 ∷ line.Commit (Reduce 2 1 1) 1 2 1 1 ∷ line.Start (Map 2 2 1 1) 1 ∷ line.Commit (Map 2 2 1 1) 1 1 0 0 ∷ line.Start (Reduce 2 2 0) 0 ∷ line.Start (Reduce 2 2 1) 1 ∷ line.Commit (Reduce 2 2 0) 0 2 1 1 ∷ line.Start (Test 2 0) 0 ∷ line.Commit (Test 2 0) 0 2 0 1 ∷ line.Commit (Reduce 2 2 1) 1 2 1 1 ∷ line.Start (Test 2 1) 1 ∷ line.Commit (Test 2 1) 1 2 0 1 ∷ line.Round 3 ∷ line.Start (Map 3 1 1 0) 0 ∷ line.Start (Map 3 1 1 1) 1 ∷ line.Commit (Map 3 1 1 0) 0 1 0 0 ∷ line.Commit (Map 3 1 1 1) 1 1 0 0 ∷ line.Start (Reduce 3 1 0) 0 ∷ line.Start (Reduce 3 1 1) 1 ∷ line.Commit (Reduce 3 1 0) 0 2 1 1 ∷ line.Start (Map 3 2 1 0) 0 ∷ line.Commit (Map 3 2 1 0) 0 1 0 0 ∷ line.Commit (Reduce 3 1 1) 1 2 1 1 ∷ line.Start (Map 3 2 1 1) 1 ∷ line.Commit (Map 3 2 1 1) 1 1 0 0 ∷ line.Start (Reduce 3 2 0) 0 ∷ line.Start (Reduce 3 2 1) 1 ∷ line.Commit (Reduce 3 2 0) 0 2 1 1 ∷ line.Start (Test 3 0) 0 ∷ line.Commit (Test 3 0) 0 2 0 1 ∷ line.Commit (Reduce 3 2 1) 1 2 1 1 ∷ line.Start (Test 3 1) 1 ∷ line.Commit (Test 3 1) 1 2 0 1 ∷ line.End Fixpoint 3 ∷ []), (Wipe 0 ∷ Wipe 1 ∷ Write 0 (Blk 0 0) ∷ Write 1 (Blk 0 0) ∷ Write 1 (Blk 1 0) ∷ Write 0 (Blk 1 0) ∷ Read 0 (Blk 0 0) ∷ Write 0 (Spill 1 1 1 0) ∷ Read 0 (Blk 0 0) ∷ Write 0 (Spill 1 2 2 0) ∷ Read 1 (Blk 1 0) ∷ Read 0 (Blk 1 0) ∷ Write 1 (Spill 1 1 2 0) ∷ Read 0 (Spill 1 1 1 0) ∷ Read 1 (Spill 1 1 2 0) ∷ Write 0 (Out 1 1 0) ∷ Write 0 (Ric 1 2 0) ∷ Read 0 (Out 1 1 0) ∷ Write 0 (Spill 1 2 1 0) ∷ Read 0 (Spill 1 1 1 0) ∷ Read 1 (Spill 1 1 2 0) ∷ Write 1 (Out 1 1 1) ∷ Write 1 (Ric 1 2 1) ∷ Read 1 (Out 1 1 1) ∷ Write 1 (Spill 1 2 1 1) ∷ Read 0 (Spill 1 2 1 0) ∷ Read 1 (Spill 1 2 1 1) ∷ Read 0 (Spill 1 2 2 0) ∷ Write 0 (Out 1 2 0) ∷ Write 0 (Ric 2 2 0) ∷ Write 0 (Roc 1 0) ∷ Write 1 (Out 1 2 0) ∷ Read 0 (Spill 1 2 1 0) ∷ Read 1 (Spill 1 2 1 1) ∷ Read 0 (Spill 1 2 2 0) ∷ Write 1 (Out 1 2 1) ∷ Write 1 (Ric 2 2 1) ∷ Write 1 (Roc 1 1) ∷ Write 0 (Out 1 2 1) ∷ Remove 0 (Spill 1 1 1 0) ∷ Remove 0 (Spill 1 2 1 0) ∷ Remove 1 (Spill 1 2 1 1) ∷ Remove 0 (Out 1 1 0) ∷ Remove 1 (Out 1 1 1) ∷ Read 0 (Out 1 2 0) ∷ Write 0 (Spill 2 1 1 0) ∷ Read 1 (Out 1 2 1) ∷ Write 1 (Spill 2 1 1 1) ∷ Read 0 (Spill 2 1 1 0) ∷ Read 1 (Spill 2 1 1 1) ∷ Read 0 (Ric 1 2 0) ∷ Read 1 (Spill 1 1 2 0) ∷ Write 0 (Out 2 1 0) ∷ Write 0 (Ric 1 2 0) ∷ Read 0 (Out 2 1 0) ∷ Write 0 (Spill 2 2 1 0) ∷ Read 0 (Spill 2 1 1 0) ∷ Read 1 (Spill 2 1 1 1) ∷ Read 1 (Ric 1 2 1) ∷ Write 1 (Out 2 1 1) ∷ Read 1 (Out 2 1 1) ∷ Write 1 (Spill 2 2 1 1) ∷ Read 0 (Spill 2 2 1 0) ∷ Read 1 (Spill 2 2 1 1) ∷ Read 0 (Ric 2 2 0) ∷ Write 0 (Out 2 2 0) ∷ Write 0 (Roc 2 0) ∷ Write 1 (Out 2 2 0) ∷ Read 0 (Out 2 2 0) ∷ Read 0 (Roc 1 0) ∷ Read 0 (Spill 2 2 1 0) ∷ Read 1 (Spill 2 2 1 1) ∷ Read 1 (Ric 2 2 1) ∷ Write 1 (Out 2 2 1) ∷ Write 1 (Roc 2 1) ∷ Write 0 (Out 2 2 1) ∷ Read 1 (Out 2 2 1) ∷ Read 1 (Roc 1 1) ∷ Remove 0 (Spill 2 1 1 0) ∷ Remove 1 (Spill 2 1 1 1) ∷ Remove 0 (Spill 2 2 1 0) ∷ Remove 1 (Spill 2 2 1 1) ∷ Remove 0 (Out 1 2 0) ∷ Remove 1 (Out 1 2 0) ∷ Remove 0 (Out 1 2 1) ∷ Remove 1 (Out 1 2 1) ∷ Remove 0 (Out 2 1 0) ∷ Remove 1 (Out 2 1 1) ∷ Remove 0 (Roc 1 0) ∷ Remove 1 (Roc 1 1) ∷ Read 0 (Out 2 2 0) ∷ Write 0 (Spill 3 1 1 0) ∷ Read 1 (Out 2 2 1) ∷ Write 1 (Spill 3 1 1 1) ∷ Read 0 (Spill 3 1 1 0) ∷ Read 1 (Spill 3 1 1 1) ∷ Read 0 (Ric 1 2 0) ∷ Write 0 (Out 3 1 0) ∷ Read 0 (Out 3 1 0) ∷ Write 0 (Spill 3 2 1 0) ∷ Read 0 (Spill 3 1 1 0) ∷ Read 1 (Spill 3 1 1 1) ∷ Read 1 (Ric 1 2 1) ∷ Write 1 (Out 3 1 1) ∷ Read 1 (Out 3 1 1) ∷ Write 1 (Spill 3 2 1 1) ∷ Read 0 (Spill 3 2 1 0) ∷ Read 1 (Spill 3 2 1 1) ∷ Read 0 (Ric 2 2 0) ∷ Write 0 (Out 3 2 0) ∷ Write 0 (Roc 3 0) ∷ Write 1 (Out 3 2 0) ∷ Read 0 (Out 3 2 0) ∷ Read 0 (Roc 2 0) ∷ Read 0 (Spill 3 2 1 0) ∷ Read 1 (Spill 3 2 1 1) ∷ Read 1 (Ric 2 2 1) ∷ Write 1 (Out 3 2 1) ∷ Write 1 (Roc 3 1) ∷ Write 0 (Out 3 2 1) ∷ Read 1 (Out 3 2 1) ∷ Read 1 (Roc 2 1) ∷ Read 0 (Out 3 2 0) ∷ Read 0 (Out 3 2 1) ∷ []))
