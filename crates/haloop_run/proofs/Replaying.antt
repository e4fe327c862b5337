-- From a load and a run of the cluster, what a run of the program came to.
use Rattle.std.proofs.Common.{false, ◌≡◌, ◌⊎◌, inl, inr, ℕ, zero, suc, ◌*◌, ◌≤◌, ◌==◌, cond, List, [], ◌∷◌, Option, None, Some, IsSome, Result, Ok, Err, refl, sym, ap, subst, ◌∙◌, length, map, map as each, arith}
use Rattle.std.specs.Prelude.{IfErr, if◌then◌else◌}
use Rattle.std.proofs.lemmas.Bool.{eq-eqb, ne_eqb}
use Rattle.std.specs.List.{AllByRecursion, slice_index}
use Rattle.std.proofs.lemmas.Grind.{div_ceil_times}
use Rattle.std.proofs.lemmas.List.{length-map}
use Rattle.counter_report.specs.Tallies.{tally}
use Rattle.counter_report.specs.declared.report.Report.{Report}
use Rattle.cluster_core.specs.Clusters.{Acted, CanBegin, ComesTo, IsByChain, IsRightAfter, Progress, RanToEnd, RanToFault}
use Rattle.cluster_core.specs.Deciding.{chain_decision, end_of}
use Rattle.cluster_core.specs.Disks.{Leaves}
use Rattle.cluster_core.specs.Faults.{AtDevice, AtMissed, AtRefusal}
use Rattle.cluster_core.specs.Loading.{IsOver}
use Rattle.cluster_core.specs.States.{Seen, plain_of}
use Rattle.cluster_core.specs.Turns.{GoesOnUntil, IsRight, decision_in}
use Rattle.cluster_core.specs.Works.{OverRight, StandsFor, StaysRight, world_of}
use Rattle.cluster_core.specs.declared.cluster.Answer.{Answer}
use Rattle.cluster_core.specs.declared.cluster.Answer.TheVariants as answer
use Rattle.cluster_core.specs.declared.fault.CoreFault.{CoreFault}
use Rattle.cluster_core.specs.declared.fault.CoreFault.TheVariants as core
use Rattle.cluster_core.specs.declared.finished.Finished.{Finished}
use Rattle.cluster_core.proofs.DisksLeft.{leaves_more, leaves_none}
use Rattle.cluster_core.proofs.ManyTurns.{loaded_by_chain, loaded_to_end, loaded_to_fault}
use Rattle.counter_report.specs.declared.journal.EndWord.{EndWord}
use Rattle.hal_outside.proofs.Counts.{rose_before}
use Rattle.node_names.specs.declared.task.Task.{Task}
use Rattle.run_laws.proofs.Causing.{turns_have_causes}
use Rattle.run_laws.proofs.Plans.{always_leaves, caused_leaves}
use Rattle.run_laws.proofs.ToldByJournals.{ends_are_told, failures_are_told}
use Rattle.run_laws.specs.Refusals.{Cause}
use Rattle.run_laws.specs.Telling.{Failures, TellsEnd, fails_at}
use Rattle.run_model.specs.Lists.{number_of}
use Rattle.run_model.specs.Plans as why
use Rattle.run_model.specs.PlanLaws.{Always}
use Rattle.run_model.specs.Plans.{Plan, gives, refuses}
use Rattle.run_model.specs.Runs.{load, loaded, run, state_of, turns}
use Rattle.run_model.specs.Turns.{Turned, acted, ends, turn}
use Rattle.valid_copies.proofs.Following.{begun_first, begun_none}
use Rattle.valid_copies.proofs.Others.{tells_on}
use Rattle.valid_copies.proofs.Adding.{such_more, such_none}
use Rattle.valid_copies.specs.Calls.{Begun, Follows, made_of}
use Rattle.valid_copies.specs.RightCalls.{IsRightCall, RightCalls}
use Rattle.haloop_run.specs.Replays.{ArePut, Ending, RunsTo, block_count, broken, computed, finished, missed, setup_of, task_failed}
use Rattle.haloop_run.specs.Statuses.{AreTrue, HasCopies, Ran}
use Rattle.haloop_run.specs.steps.Runs.{IsLoadedFor, IsRefusedLoad, IsRefusedRun, IsReplayed}
use Rattle.function_meaning.specs.steps.MeaningLaws.{key_law, round_law}
use Rattle.hal_base.specs.declared.fields.Schema.{Schema}
use Rattle.hal_base.specs.Meaning.{Meaning}
use Rattle.hal_base.specs.declared.record.Record.{Record}
use Rattle.hal_base.specs.declared.shape.Shape.{Shape}
use Rattle.hal_base.specs.Shapes.{IsWellFormed}
use Rattle.hal_outside.specs.DiskTold.{DiskTold}
use Rattle.hal_outside.specs.Told.{OnTold, Rose}
use Rattle.hal_outside.specs.declared.disks.Disks.{Ghosts as Disks}
use Rattle.function_language.specs.declared.tree.Function.{Function as Written}
use Rattle.function_meaning.specs.Meanings as meanings
use Rattle.type_checker.specs.declared.uses.Uses.{Uses}
use Rattle.loop_program.specs.Whole.{Whole, blocked, with_blocks}
use Rattle.name_values.specs.Values.{World}
use Rattle.node_names.specs.declared.name.Name.{Name}
use Rattle.hal_outside.specs.DiskFiles.{file_at}
use Rattle.plain_job.specs.Chain.{last_out, table_at}
use Rattle.plain_job.specs.Ends.{Ends}
use Rattle.plain_job.specs.Fit.{AreTablesOf, FunctionsFit, TablesFit}
use Rattle.replica_table.specs.Copies.{Copy}
use Rattle.run_laws.specs.WithoutLoss.{HasNoCaches}
use Rattle.run_model.specs.State.{PlainCluster, Setup, bare}
use Rattle.schedule_text.specs.declared.schedule.Schedule.{Schedule}
use Rattle.task_values.specs.Worlds.{WorldFits}
use Rattle.valid_copies.specs.Stands.{WasPut}
use Rattle.valid_copies.specs.Readings.{HasText}
use Rattle.haloop_run.specs.Meanings.{meaning_of}
use Rattle.haloop_run.specs.steps.Inputs.{CanRun}
use Rattle.haloop_run.specs.Clearing.{built, cleared}
use Rattle.haloop_run.proofs.SameChains.{same_end, same_parts}

-- ---- what a run is given

same_length : (schemas : List Schema) (tables : List (List Record)) → AreTablesOf schemas tables → length tables ≡ length schemas
same_length [] [] t = refl
same_length [] (rows ∷ tables) t = absurd t
same_length (schema ∷ schemas) [] t = absurd t
same_length (schema ∷ schemas) (rows ∷ tables) t = ap suc (same_length schemas tables t.1)

blocks_enough : (block : ℕ) → 1 ≤ block → (tables : List (List Record)) (t : ℕ) → length (table_at tables t) ≤ slice_index (map (block_count block) tables) t * block
blocks_enough block one [] t = omega arith
blocks_enough block one (rows ∷ tables) zero = (div_ceil_times (length rows) block (omega (arith, one))).0
blocks_enough block one (rows ∷ tables) (suc t) = blocks_enough block one tables t

module _ (program : Whole) (schedule : Schedule) (tables : List (List Record)) (shape : Shape) (is : shape ≡ cleared (blocked program.shape (map (block_count schedule.block) tables))) (can : CanRun schedule) (fit : TablesFit program.shape tables) (well : IsWellFormed shape) where
  abbrev given : Shape
  given = cleared (blocked program.shape (map (block_count schedule.block) tables))

  pub can_begin : HasNoCaches shape → CanBegin shape schedule
  can_begin none = subst (λ (s : Shape). CanBegin s schedule) (sym is) (record {
    counted = record { well_formed = subst IsWellFormed is well; blocks = length-map tables (block_count schedule.block) ∙ same_length program.shape.tables tables fit };
    limits = can.limits;
    caches = subst HasNoCaches is none;
    quiet = can.quiet;
  })

  pub tables_fit : TablesFit shape tables
  tables_fit = subst (λ (s : Shape). TablesFit s tables) (sym is) fit

  pub world_fits : FunctionsFit (meaning_of program) shape → WorldFits (computed program schedule tables)
  world_fits functions = record {
    well_formed = subst IsWellFormed is well;
    functions = subst (FunctionsFit (meaning_of program)) is functions;
    tables = fit;
    blocks = blocks_enough schedule.block can.limits.block.0 tables;
    rounds = round_law program.functions program.uses program.shape.parts;
    keys = key_law program.functions program.uses program.shape.parts;
  }

-- what functions mean is what those of the program do
pub same_meaning : (program made : Whole) (blocks : List ℕ) (functions : List Written) (uses : Uses) (shape : Shape) → made ≡ with_blocks program blocks → functions ≡ made.functions → uses ≡ made.uses → shape ≡ cleared made.shape → meanings.meaning_of functions uses shape.parts ≡ meaning_of program
same_meaning program made blocks functions uses shape m f u s =
    ap (λ (x : List Written). meanings.meaning_of x uses shape.parts) (f ∙ ap (λ (w : Whole). w.functions) m)
    ∙ ap (λ (x : Uses). meanings.meaning_of program.functions x shape.parts) (u ∙ ap (λ (w : Whole). w.uses) m)
    ∙ ap (λ (x : Shape). meanings.meaning_of program.functions program.uses x.parts) (s ∙ ap (λ (w : Whole). cleared w.shape) m)

-- ---- decisions

-- the loop goes on in each other round, and this is the decision on this one
decided : ℕ → Option EndWord → ℕ → Option EndWord
decided round decision i = if i == round then decision else None

goes_on : (round : ℕ) (decision : Option EndWord) → GoesOnUntil round (decided round decision)
unfolding decided
goes_on round decision i l = ap (λ b. cond b decision None) (ne_eqb i round (λ e. omega arith))

is_decision : (round : ℕ) (decision : Option EndWord) → decided round decision round ≡ decision
unfolding decided
is_decision round decision = ap (λ b. cond b decision None) (eq-eqb round round refl)

-- ---- what journals tell

told_by_turn : (setup : Setup) (decision : Option EndWord) (c : PlainCluster) (before after : Option DiskTold) (rest : Plan Turned) → Failures c → Follows (turn setup decision c) before after rest → Always (λ turned. Failures (state_of turned)) Failures rest
told_by_turn setup decision c before after rest h f = always_leaves (λ turned. Failures (state_of turned)) Failures (turn setup decision c) rest (each made_of f.calls) (failures_are_told setup decision c h) f.leads

told_by_turns : (m : Meaning) (n : ℕ) (old new : Seen) (before after : Option DiskTold) → Acted m n old before new after → Failures old.plain → Failures new.plain
told_by_turns m zero old new before after a h = subst (λ (s : Seen). Failures s.plain) (sym a.0) h
told_by_turns m (suc n) old new before after a h = told_by_turn a.0.setup (decision_in a.0) a.0.plain a.1 after (gives (acted new.plain)) (told_by_turns m n old a.0 before a.1 a.2 h) a.3.follows

-- ---- how a run ended

-- the ending of a run, by its answer
abbrev pub ending_of : Result Finished CoreFault → Ending
ending_of (Ok it) = finished it.end
ending_of (Err (core.TaskFailed task)) = task_failed task
ending_of (Err core.NotBuilt) = missed
ending_of (Err (core.Device device)) = broken
ending_of (Err core.Memory) = broken

as_ending : (setup : Setup) (decisions : ℕ → Option EndWord) (n : ℕ) (before after : Option DiskTold) (last : PlainCluster) (result : Result Finished CoreFault) → ComesTo (run n setup decisions) before after last result → RunsTo setup decisions before after last (ending_of result)
as_ending setup decisions n before after last (Ok it) c = (n, c)
as_ending setup decisions n before after last (Err (core.TaskFailed task)) c = (n, c)
as_ending setup decisions n before after last (Err core.NotBuilt) c = (n, c)
as_ending setup decisions n before after last (Err (core.Device device)) c = (n, c)
as_ending setup decisions n before after last (Err core.Memory) c = (n, c)

-- what turns led to, whatever it was
abbrev CameBy : Meaning → Seen → Option DiskTold → Seen → Option DiskTold → Result Finished CoreFault → Type 0
CameBy m old before new after (Ok it) = RanToEnd m old before new after it
CameBy m old before new after (Err fault) = RanToFault m old before new after fault

-- each copy that is kept was put
are_put : (w : World) (copies : List Copy) (told : DiskTold) → AllByRecursion (λ (copy : Copy). HasText w copy.name) copies → AllByRecursion (WasPut w told) copies → ArePut w (bare copies) told
are_put w [] told t p = tt
are_put w (copy ∷ copies) told t p = ((t.0, p.0), are_put w copies told t.1 p.1)

module _ {D : Type 0} (g : Disks D) (program : Whole) (schedule : Schedule) (tables : List (List Record)) where
  abbrev setup : Setup
  setup = setup_of program schedule tables

  abbrev world : World
  world = computed program schedule tables

  abbrev none : ℕ → Option EndWord
  none i = None

  -- nothing was done
  pub none_ran : (disks : D) → Ran g program schedule tables disks disks (loaded setup) broken
  none_ran disks = record {
    calls = (none, (0, begun_none (run 0 setup none) (g.told disks)));
    by_chain = λ t. (0, begun_none (run 0 setup (chain_decision world)) (g.told disks));
    texts = λ t. such_none (IsRightCall world) (g.told disks);
    unmissed = λ s t. refl;
    left = leaves_none g schedule.nodes disks;
  }

  its_world : IsOver setup.shape tables schedule.block world
  its_world = record { same_shape = refl; same_tables = refl; same_block = refl }

  module _ (old mid : D) (texts : (w : World) → IsOver setup.shape tables schedule.block w → OnTold (RightCalls w) (g.told old) (g.told mid)) (not_missed : IsSome (g.told old) → g.misses mid ≡ g.misses old) (left : Leaves g schedule.nodes old mid) where
    -- the load was not brought to its end
    load_ran : Begun (load setup) (g.told old) (g.told mid) → Ran g program schedule tables old mid (loaded setup) broken
    load_ran b = record {
      calls = (none, (0, begun_first (load setup) (turns 0 setup none) (g.told old) (g.told mid) b));
      by_chain = λ t. (0, begun_first (load setup) (turns 0 setup (chain_decision world)) (g.told old) (g.told mid) b);
      texts = λ t. texts world its_world;
      unmissed = λ s t. not_missed t;
      left = left;
    }

    pub load_stops : (fault : CoreFault) → IsRefusedLoad g setup old mid fault → IsRefusedRun g program schedule tables old mid fault
    load_stops (core.TaskFailed task) r = absurd r
    load_stops core.NotBuilt r = absurd r
    load_stops (core.Device device) r = (loaded setup, load_ran r.0, r.1)
    load_stops core.Memory r = (loaded setup, load_ran r)

    tells_later : IsSome (g.told old) → IsSome (g.told mid)
    tells_later = tells_on (λ old new. (node : ℕ) (name : Name) → schedule.nodes ≤ node → file_at new.put node name ≡ file_at old.put node name) (g.told old) (g.told mid) left.others

    module _ (cluster : Progress) (is : IsLoadedFor g setup tables old mid cluster) (fits : WorldFits world) (new : D) (state : Seen) (more : Leaves g cluster.state.setup.schedule.nodes mid new) where
      -- in place of the setup of the cluster, that of the run
      of_setup : (P : Setup → Type 0) → P cluster.state.setup → P setup
      of_setup P p = subst P is.begun.setup_is p

      pub all_left : Leaves g schedule.nodes old new
      all_left = leaves_more g schedule.nodes old mid new left (of_setup (λ s. Leaves g s.schedule.nodes mid new) more)

      -- what holds over right states holds of this world
      of_world : (P : World → Type 0) → OverRight (meaning_of program) cluster.state.setup (g.told mid) cluster.state.kept P → IsSome (g.told old) → P world
      of_world P o t = (of_setup (λ s. OverRight (meaning_of program) s (g.told mid) cluster.state.kept P) o) tables fits (tells_later t) (is.stands world its_world)

      module _ (result : Result Finished CoreFault) (came : CameBy (meaning_of program) cluster.state (g.told mid) state (g.told new) result) (by_chain : IsByChain (meaning_of program) cluster.state (g.shows_damage mid) (g.told mid) (g.told new) state.plain result)
          (run_texts : g.shows_damage mid → OverRight (meaning_of program) cluster.state.setup (g.told mid) cluster.state.kept (λ w. OnTold (RightCalls w) (g.told mid) (g.told new)))
          (run_unmissed : g.sound mid → OverRight (meaning_of program) cluster.state.setup (g.told mid) cluster.state.kept (λ w. (g.misses new ≡ g.misses mid) × IfErr result (λ fault. AtMissed fault ⊥))) where
        came_to : (result : Result Finished CoreFault) → CameBy (meaning_of program) cluster.state (g.told mid) state (g.told new) result → (decisions : ℕ → Option EndWord) × RunsTo setup decisions (g.told old) (g.told new) state.plain (ending_of result)
        came_to (Ok it) r =
            let d = decided state.plain.round (Some it.end) in (
              d,
              as_ending setup d (suc r.ran.count) (g.told old) (g.told new) state.plain (Ok it)
                  (loaded_to_end setup cluster state (g.told old) (g.told mid) (g.told new) is.calls is.begun (meaning_of program) it r d (goes_on state.plain.round (Some it.end), is_decision state.plain.round (Some it.end))),
            )
        came_to (Err fault) r =
            let d = decided r.last.plain.round (decision_in r.last) in (
              d,
              as_ending setup d (suc r.ran.count) (g.told old) (g.told new) state.plain (Err fault)
                  (loaded_to_fault setup cluster state (g.told old) (g.told mid) (g.told new) is.calls is.begun (meaning_of program) fault r d (goes_on r.last.plain.round (decision_in r.last), λ e. is_decision r.last.plain.round (decision_in r.last))),
            )

        chained : AreTrue g old → RunsTo setup (chain_decision world) (g.told old) (g.told new) state.plain (ending_of result)
        chained t =
            let c = loaded_by_chain setup cluster state (g.told old) (g.told mid) (g.told new) is.calls is.begun (meaning_of program) (g.shows_damage mid) result by_chain tables fits (left.damage_shown t.0) (tells_later t.1) (is.stands world its_world) in
            as_ending setup (chain_decision world) (suc c.0) (g.told old) (g.told new) state.plain result c.1

        pub run_ran : Ran g program schedule tables old new state.plain (ending_of result)
        run_ran = record {
          calls = came_to result came;
          by_chain = chained;
          texts = λ t. such_more (IsRightCall world) (g.told old) (g.told mid) (g.told new) (texts world its_world) (of_world (λ w. OnTold (RightCalls w) (g.told mid) (g.told new)) (run_texts (left.damage_shown t.0)) t.1);
          unmissed = λ s t. (of_world (λ w. (g.misses new ≡ g.misses mid) × IfErr result (λ fault. AtMissed fault ⊥)) (run_unmissed (left.soundness_kept s)) t).0 ∙ not_missed t;
          left = all_left;
        }

        not_over_sound : result ≡ Err core.NotBuilt → g.sound old → IsSome (g.told old) → ⊥
        not_over_sound e s t = subst (λ (r : Result Finished CoreFault). IfErr r (λ fault. AtMissed fault ⊥)) e (of_world (λ w. (g.misses new ≡ g.misses mid) × IfErr result (λ fault. AtMissed fault ⊥)) (run_unmissed (left.soundness_kept s)) t).1

      has_copies : state.plain ≡ plain_of state.setup.schedule state.kept → (AreTrue g old → StandsFor world state.kept (g.told new)) → HasCopies g program schedule tables old new state.plain
      has_copies seen stands t = go (g.told old) (g.told new) all_left.others t.1 (stands t)
        where
          go : (before after : Option DiskTold) → OnTold (λ old new. (node : ℕ) (name : Name) → schedule.nodes ≤ node → file_at new.put node name ≡ file_at old.put node name) before after → IsSome before → StandsFor world state.kept after → OnTold (λ before after. ArePut world state.plain.copies after) before after
          go None after o s h = o
          go (Some b) None o s h = o
          go (Some b) (Some a) o s h = subst (λ (c : PlainCluster). ArePut world c.copies a) (sym seen) (are_put world state.kept.table.copies a h.copies.spelled h.copies.put)

      -- a cluster that begins has answered nothing
      unanswered : (fault : CoreFault) (p : Type 0) → p ⊎ (cluster.answered ≡ Some (answer.Fault fault)) → p
      unanswered fault p (inl x) = x
      unanswered fault p (inr e) = absurd (no cluster.answered is.begun.answers e)
        where
          no : (o : Option Answer) → o ≡ None → o ≡ Some (answer.Fault fault) → ⊥
          no o d e = cc

      -- failures are told from the first turn on
      begun_told : Failures cluster.state.plain
      begun_told = subst Failures (sym is.begun.plain_is) (λ task. refl)

      its_failures : (task : Task) → RanToFault (meaning_of program) cluster.state (g.told mid) state (g.told new) (core.TaskFailed task) → number_of (fails_at task) state.plain.journal ≡ schedule.attempts
      its_failures task r =
          let last = told_by_turns (meaning_of program) r.ran.count cluster.state r.last (g.told mid) r.between r.ran.acts begun_told in
          let told = told_by_turn r.last.setup (decision_in r.last) r.last.plain r.between (g.told new) (refuses state.plain (why.TaskFailed task)) last r.refused in
          let cause = caused_leaves (Cause r.last.setup) (turn r.last.setup (decision_in r.last) r.last.plain) (refuses state.plain (why.TaskFailed task)) (each made_of r.refused.calls) (turns_have_causes r.last.setup (decision_in r.last) r.last.plain) r.refused.leads in
          sym (told task) ∙ cause ∙ ap (λ (s : Setup). s.schedule.attempts) (r.ran.same ∙ is.begun.setup_is)

      module _ (it : Finished) (came : RanToEnd (meaning_of program) cluster.state (g.told mid) state (g.told new) it) (by_chain : IsByChain (meaning_of program) cluster.state (g.shows_damage mid) (g.told mid) (g.told new) state.plain (Ok it))
          (run_texts : g.shows_damage mid → OverRight (meaning_of program) cluster.state.setup (g.told mid) cluster.state.kept (λ w. OnTold (RightCalls w) (g.told mid) (g.told new)))
          (run_unmissed : g.sound mid → OverRight (meaning_of program) cluster.state.setup (g.told mid) cluster.state.kept (λ w. (g.misses new ≡ g.misses mid) × IfErr (Ok it) (λ fault. AtMissed fault ⊥)))
          (right : IsRightAfter (meaning_of program) cluster.state (g.shows_damage mid) (g.told mid) (g.told new) state.kept (Some it))
          (seen : state.plain ≡ plain_of state.setup.schedule state.kept) where
        is_right : AreTrue g old → IsRight world (g.told new) state.kept (Some it)
        is_right t =
            of_setup (λ s. (ts : List (List Record)) → WorldFits (world_of (meaning_of program) s ts) → g.shows_damage mid → IsSome (g.told mid) → StandsFor (world_of (meaning_of program) s ts) cluster.state.kept (g.told mid) → IsRight (world_of (meaning_of program) s ts) (g.told new) state.kept (Some it)) right
            tables fits (left.damage_shown t.0) (tells_later t.1) (is.stands world its_world)

        end_told : TellsEnd (ends state.plain it.end)
        end_told = ends_are_told came.last.setup (decision_in came.last) came.last.plain (each made_of came.ended.calls) (ends state.plain it.end) came.ended.leads

        pub is_replayed : (report : Report) → report ≡ tally state.plain.journal → IsReplayed g program schedule tables old new (record { parts = it.parts; report = report })
        is_replayed report e = record {
          word = it.end;
          last = state.plain;
          ran = run_ran (Ok it) came by_chain run_texts run_unmissed;
          before_end = end_told.0;
          ended = end_told.1;
          copies = has_copies seen (λ t. (is_right t).0);
          report_is = e;
          ends = λ t. same_end (meaning_of program) program.shape (map (block_count schedule.block) tables) built false tables state.plain.round (end_of it.end)
              (subst (λ round. Ends (meaning_of program) setup.shape tables round (end_of it.end)) came.rounds (is_right t).1);
          parts = λ t. (is_right t).2 ∙ ap (last_out (meaning_of program) setup.shape tables) came.rounds ∙ same_parts (meaning_of program) program.shape (map (block_count schedule.block) tables) built false tables state.plain.round;
        }

      module _ (seen : state.plain ≡ plain_of state.setup.schedule state.kept) (later : (g.faults old ≤ g.faults mid) × (g.misses old ≤ g.misses mid)) where
        pub run_stops : (fault : CoreFault) → RanToFault (meaning_of program) cluster.state (g.told mid) state (g.told new) fault → IsByChain (meaning_of program) cluster.state (g.shows_damage mid) (g.told mid) (g.told new) state.plain (Err fault)
            → (g.shows_damage mid → OverRight (meaning_of program) cluster.state.setup (g.told mid) cluster.state.kept (λ w. OnTold (RightCalls w) (g.told mid) (g.told new)))
            → (g.sound mid → OverRight (meaning_of program) cluster.state.setup (g.told mid) cluster.state.kept (λ w. (g.misses new ≡ g.misses mid) × IfErr {T = Finished} (Err fault) (λ fault. AtMissed fault ⊥)))
            → AtRefusal fault (StaysRight (meaning_of program) cluster.state.setup (g.shows_damage mid) (g.told mid) (g.told new) cluster.state.kept state.kept)
            → AtDevice fault (Rose (g.faults mid) (g.faults new) ⊎ (cluster.answered ≡ Some (answer.Fault fault)))
            → AtMissed fault (Rose (g.misses mid) (g.misses new) ⊎ (cluster.answered ≡ Some (answer.Fault fault)))
            → IsRefusedRun g program schedule tables old new fault
        run_stops (core.TaskFailed task) r by texts unmissed still device miss = record {
          last = state.plain;
          ran = run_ran (Err (core.TaskFailed task)) r by texts unmissed;
          failures = its_failures task r;
          copies = has_copies seen (λ t.
              of_setup (λ s. StaysRight (meaning_of program) s (g.shows_damage mid) (g.told mid) (g.told new) cluster.state.kept state.kept) still
              tables fits (left.damage_shown t.0) (tells_later t.1) (is.stands world its_world));
        }
        run_stops core.NotBuilt r by texts unmissed still device miss = (
          state.plain,
          run_ran (Err core.NotBuilt) r by texts unmissed,
          rose_before (g.misses old) (g.misses mid) (g.misses new) later.1 (unanswered core.NotBuilt (Rose (g.misses mid) (g.misses new)) miss),
          not_over_sound (Err core.NotBuilt) r by texts unmissed refl,
        )
        run_stops (core.Device d) r by texts unmissed still device miss = (
          state.plain,
          run_ran (Err (core.Device d)) r by texts unmissed,
          rose_before (g.faults old) (g.faults mid) (g.faults new) later.0 (unanswered (core.Device d) (Rose (g.faults mid) (g.faults new)) device),
        )
        run_stops core.Memory r by texts unmissed still device miss = (state.plain, run_ran (Err core.Memory) r by texts unmissed)
