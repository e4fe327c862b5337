-- From what the steps of a command found and left, what the command came to.
use Rattle.std.proofs.Common.{◌≡◌, ◌⊎◌, ℕ, List, Option, None, Some, Ok, Err, sym, ap, subst, inl, inr, refl, arith, map as each}
use Rattle.cluster_core.specs.Deciding.{end_of}
use Rattle.cluster_core.specs.declared.fault.CoreFault.{CoreFault}
use Rattle.cluster_core.specs.declared.fault.CoreFault.TheVariants as core
use Rattle.counter_report.specs.Reports.{report_text}
use Rattle.hal_base.specs.declared.record.Record.{Record}
use Rattle.hal_base.specs.declared.shape.Shape.{Shape}
use Rattle.hal_base.specs.Meaning.{Meaning}
use Rattle.hal_base.specs.Lines.{table_text}
use Rattle.hal_outside.specs.declared.disks.Disks.{Ghosts as Disks}
use Rattle.hal_outside.specs.declared.files.Files.{Ghosts}
use Rattle.hal_outside.specs.declared.faults.FileFault.{FileFault}
use Rattle.hal_outside.specs.Told.{FileMap}
use Rattle.hal_outside.specs.Faults.{AtFileDevice}
use Rattle.hal_outside.specs.Calls.{Changes, FaultsRose, OnTold, OnlyReads, Tells}
use Rattle.hal_outside.proofs.Counts.{rose_before}
use Rattle.plain_job.specs.declared.ending.PlainResult.{PlainResult}
use Rattle.plain_job.specs.Ends.{IsChain, IsPlainResult}
use Rattle.loop_program.specs.Whole.{Whole}
use Rattle.schedule_text.specs.declared.schedule.Schedule.{Schedule}
use Rattle.haloop_run.specs.declared.fault.CommandFault.{CommandFault}
use Rattle.haloop_run.specs.declared.fault.CommandFault.TheVariants.{Refused, Stopped, Failed}
use Rattle.haloop_run.specs.declared.run.Done.TheVariants.{Plain, Run}
use Rattle.haloop_run.specs.declared.replay.Replayed.{Replayed}
use Rattle.haloop_run.specs.Words.{Asked}
use Rattle.haloop_run.specs.Inputs.{ComesTo, HasSchedule, Outcome, absent, bad_program, bad_schedule, bad_table, complete, not_built}
use Rattle.haloop_run.specs.Lines.{plain_report, status_of}
use Rattle.haloop_run.specs.Meanings.{meaning_of}
use Rattle.haloop_run.specs.Outputs.{Leaves, LeavesPart, WritesParts, WritesSome}
use Rattle.haloop_run.specs.Replays.{Ending, broken, finished, missed, task_failed}
use Rattle.haloop_run.specs.Statuses.{AreTrue, DisksFailed, IsDoneBy, Ran, RanTo}
use Rattle.haloop_run.specs.steps.Commands.{CameTo, IsRunInput, OnlyRun, run_refused}
use Rattle.haloop_run.specs.steps.Inputs.{AsAsked, Judged, Stops}
use Rattle.haloop_run.specs.steps.Outputs.{Written, WrittenPart}
use Rattle.haloop_run.specs.steps.Runs.{IsRefusedRun, IsReplayed}
use Rattle.haloop_run.proofs.RunLaws.{began_to}
use Rattle.haloop_run.proofs.Stopping.{at_device}
use Rattle.run_model.specs.State.{PlainCluster}

texts_of : (m : Meaning) (shape : Shape) (tables : List (List Record)) (chain : PlainResult) → IsPlainResult m shape tables chain → IsChain m shape tables (each table_text chain.parts) chain.rounds chain.end
texts_of m shape tables chain p = record { ends = p.ends; texts_are = ap (each table_text) p.parts }

-- where files tell, a relation of before and after is what it implies for what they told
pub on_told : (P Q : FileMap → FileMap → Type 0) (before mid after : Option FileMap) → mid ≡ before → ((old new : FileMap) → before ≡ Some old → P old new → Q old new) → OnTold P mid after → OnTold Q before after
on_told P Q None mid after m pq p = subst (λ (t : Option FileMap). OnTold P t after) m p
on_told P Q (Some old) mid None m pq p = subst (λ (t : Option FileMap). OnTold P t None) m p
on_told P Q (Some old) mid (Some new) m pq p = pq old new refl (subst (λ (t : Option FileMap). OnTold P t (Some new)) m p)

-- ---- what is asked

pub none_asked : (asked : Option (List ℕ)) → AsAsked asked None → asked ≡ None
none_asked None a = refl
none_asked (Some name) a = absurd a

pub some_asked : (asked : Option (List ℕ)) (schedule : Schedule) → AsAsked asked (Some schedule) → (name : List ℕ) × (asked ≡ Some name)
some_asked None schedule a = absurd a
some_asked (Some name) schedule a = (name, refl)

-- an input of status 0 of which a schedule is asked is that of a run
run_input : (files : FileMap) (asked : Asked) (name : List ℕ) → asked.schedule ≡ Some name → (it : Outcome) → ComesTo files asked it → status_of it ≡ 0 → IsRunInput it
run_input files asked name e (complete program None tables) c s = subst (λ (o : Option (List ℕ)). HasSchedule files o None) e c.1
run_input files asked name e (complete program (Some schedule) tables) c s = tt
run_input files asked name e (absent other) c s = absurd (omega (arith, s))
run_input files asked name e (bad_program line what) c s = absurd (omega (arith, s))
run_input files asked name e (bad_schedule line what) c s = absurd (omega (arith, s))
run_input files asked name e not_built c s = absurd (omega (arith, s))
run_input files asked name e (bad_table other what) c s = absurd (omega (arith, s))

module _ {F D : Type 0} (g : Ghosts F) (d : Disks D) (asked : Asked) (old mid : F) (reads : OnlyReads g old mid) where
  -- an input that is refused
  pub input_stops : (held : D) (fault : CommandFault) → Stops g old mid (Judged asked) fault → CameTo g d asked old mid held held (Err fault)
  input_stops held (Refused fault) s = (reads.1, refl, s.0, s.1)
  input_stops held (Stopped fault) s = absurd s
  input_stops held (Failed fault) s = (at_device fault (FaultsRose g old mid) (FaultsRose g old mid ⊎ DisksFailed d held held) inl s, inl reads.1, inl refl)

  -- ---- plain

  module _ (held : D) (program : Whole) (tables : List (List Record)) (plain : asked.schedule ≡ None) (found : (told : FileMap) → Tells g old told → Judged asked told (complete program None tables)) where
    -- memory that ran out in the chain
    pub chain_stops : (fault : FileFault) → AtFileDevice fault ⊥ → CameTo g d asked old mid held held (Err (Failed fault))
    chain_stops fault a = (at_device fault ⊥ (FaultsRose g old mid ⊎ DisksFailed d held held) (λ no. absurd no) a, inl reads.1, inl refl)

    module _ (new : F) (chain : PlainResult) (is : IsPlainResult (meaning_of program) program.shape tables chain) where
      leaves_chain : Changes g (Written asked.out chain.parts) mid new → Changes g (Leaves asked chain.rounds chain.end) old new
      leaves_chain w = on_told (Written asked.out chain.parts) (Leaves asked chain.rounds chain.end) (g.told old) (g.told mid) (g.told new) reads.1
          (λ before after t c. record {
            texts = each table_text chain.parts;
            chained = record { program = program; schedule = None; tables = tables; comes = (found before t).comes; chain = texts_of (meaning_of program) program.shape tables chain is };
            changed = c;
          }) w

      pub all_written : Changes g (Written asked.out chain.parts) mid new → CameTo g d asked old new held held (Ok (Plain chain.rounds chain.end))
      all_written w = (
        subst (λ o. IsDoneBy g d o asked old new held held (plain_report chain.rounds chain.end)) (sym plain)
            (record { rounds = chain.rounds; end = chain.end; leaves = leaves_chain w; no_calls = refl; line_is = refl }),
        λ told t it c. (found told t).only it c,
      )

      pub writing_stops : (fault : FileFault) → AtFileDevice fault (FaultsRose g mid new) → Changes g (WrittenPart asked.out chain.parts) mid new → CameTo g d asked old new held held (Err (Failed fault))
      writing_stops fault r w = (
        at_device fault (FaultsRose g mid new) (FaultsRose g old new ⊎ DisksFailed d held held) (λ x. inl (rose_before (g.faults old) (g.faults mid) (g.faults new) reads.0.0 x)) r,
        inr (
          on_told (WrittenPart asked.out chain.parts) (WritesSome asked) (g.told old) (g.told mid) (g.told new) reads.1 (λ before after t p. (each table_text chain.parts, p.0, p.1, p.2)) w,
          λ x. on_told (WrittenPart asked.out chain.parts) (LeavesPart asked) (g.told old) (g.told mid) (g.told new) reads.1
              (λ before after t p. record {
                rounds = chain.rounds;
                end = chain.end;
                texts = each table_text chain.parts;
                chained = record { program = program; schedule = None; tables = tables; comes = (found before t).comes; chain = texts_of (meaning_of program) program.shape tables chain is };
                written = p.0;
                first = p.1;
                changed = p.2;
              }) w,
        ),
        inl refl,
      )

  -- ---- run

  module _ (held holds : D) (program : Whole) (schedule : Schedule) (tables : List (List Record)) (name : List ℕ) (run : asked.schedule ≡ Some name) (found : (told : FileMap) → Tells g old told → Judged asked told (complete program (Some schedule) tables)) where
    abbrev ran_to : (ending : Ending) (last : PlainCluster) → Ran d program schedule tables held holds last ending → RanTo g d asked old held holds ending
    ran_to ending last r = record { program = program; schedule = schedule; tables = tables; comes = λ told t. (found told t).comes; last = last; ran = r }

    only_run : OnlyRun g asked old
    only_run told t it c = run_input told asked name run it c ((found told t).only it c)

    -- a run that is refused
    pub run_stops : (fault : CoreFault) → IsRefusedRun d program schedule tables held holds fault → CameTo g d asked old mid held holds (Err (run_refused fault))
    run_stops (core.TaskFailed task) r = (
      reads.1,
      record { task = task; to = ran_to (task_failed task) r.last r.ran; failures = r.failures; copies = r.copies; line_is = refl },
      only_run,
    )
    run_stops core.NotBuilt r = (reads.1, record { to = ran_to missed r.0 r.1; rose = r.2; not_sound = r.3; line_is = refl }, only_run)
    run_stops (core.Device device) r = (inr r.2, inl reads.1, inr (ran_to broken r.0 r.1))
    run_stops core.Memory r = (tt, inl reads.1, inr (ran_to broken r.0 r.1))

    module _ (new : F) (it : Replayed) (is : IsReplayed d program schedule tables held holds it) where
      abbrev to_end : RanTo g d asked old held holds (finished is.word)
      to_end = ran_to (finished is.word) is.last is.ran

      its_texts : AreTrue d held → IsChain (meaning_of program) program.shape tables (each table_text it.parts) is.last.round (end_of is.word)
      its_texts t = record { ends = is.ends t; texts_are = ap (each table_text) (is.parts t) }

      pub run_written : Changes g (Written asked.out it.parts) mid new → CameTo g d asked old new held holds (Ok (Run it.report))
      run_written w = (
        subst (λ o. IsDoneBy g d o asked old new held holds (report_text it.report)) (sym run) (record {
          word = is.word;
          to = to_end;
          before_end = is.before_end;
          ended = is.ended;
          copies = is.copies;
          parts = on_told (Written asked.out it.parts) (WritesParts asked) (g.told old) (g.told mid) (g.told new) reads.1 (λ before after t c. (each table_text it.parts, c)) w;
          chain = λ true. on_told (Written asked.out it.parts) (Leaves asked is.last.round (end_of is.word)) (g.told old) (g.told mid) (g.told new) reads.1
              (λ before after t c. record {
                texts = each table_text it.parts;
                chained = record { program = program; schedule = Some schedule; tables = tables; comes = (found before t).comes; chain = its_texts true };
                changed = c;
              }) w;
          line_is = ap report_text is.report_is;
        }),
        λ told t it c. (found told t).only it c,
      )

      none : (o : Option (List ℕ)) → o ≡ Some name → o ≡ None → ⊥
      none o e f = cc

      pub run_writing_stops : (fault : FileFault) → AtFileDevice fault (FaultsRose g mid new) → Changes g (WrittenPart asked.out it.parts) mid new → CameTo g d asked old new held holds (Err (Failed fault))
      run_writing_stops fault r w = (
        at_device fault (FaultsRose g mid new) (FaultsRose g old new ⊎ DisksFailed d held holds) (λ x. inl (rose_before (g.faults old) (g.faults mid) (g.faults new) reads.0.0 x)) r,
        inr (
          on_told (WrittenPart asked.out it.parts) (WritesSome asked) (g.told old) (g.told mid) (g.told new) reads.1 (λ before after t p. (each table_text it.parts, p.0, p.1, p.2)) w,
          by_chain,
        ),
        inr (began_to g d asked old held holds to_end),
      )
        where
          by_chain : (asked.schedule ≡ None) ⊎ AreTrue d held → Changes g (LeavesPart asked) old new
          by_chain (inl e) = absurd (none asked.schedule run e)
          by_chain (inr true) = on_told (WrittenPart asked.out it.parts) (LeavesPart asked) (g.told old) (g.told mid) (g.told new) reads.1
              (λ before after t p. record {
                rounds = is.last.round;
                end = end_of is.word;
                texts = each table_text it.parts;
                chained = record { program = program; schedule = Some schedule; tables = tables; comes = (found before t).comes; chain = its_texts true };
                written = p.0;
                first = p.1;
                changed = p.2;
              }) w
