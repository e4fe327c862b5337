use Rattle.std.proofs.Common.{◌≡◌, ◌∙◌, ℕ, List, Some, Ok, Err, ap, refl, subst, sym}
use Rattle.std.proofs.lemmas.Result.{err_from_is_err_and}
use Rattle.cluster_core.specs.Clusters.{IsByChain, IsRightAfter, Progress, RanToEnd, RanToFault}
use Rattle.cluster_core.specs.Faults.{AtMissed, AtRefusal}
use Rattle.cluster_core.specs.Loading.{IsOver, setup_of as cluster_setup}
use Rattle.cluster_core.specs.States.{Seen, plain_of}
use Rattle.cluster_core.specs.Works.{OverRight, StaysRight}
use Rattle.counter_report.specs.Tallies.{tally}
use Rattle.function_meaning.specs.Meanings as meanings
use Rattle.hal_base.specs.Meaning.{Meaning}
use Rattle.hal_base.specs.declared.shape.Shape.{Shape}
use Rattle.hal_outside.specs.Told.{OnTold}
use Rattle.loop_program.specs.Whole.{Whole, blocked}
use Rattle.name_values.specs.Values.{World}
use Rattle.plain_job.specs.Fit.{FunctionsFit}
use Rattle.run_model.specs.Runs.{loaded}
use Rattle.run_model.specs.State.{Setup}
use Rattle.valid_copies.specs.RightCalls.{RightCalls}
use Rattle.haloop_run.specs.Clearing.{cleared}
use Rattle.haloop_run.specs.Meanings.{meaning_of}
use Rattle.haloop_run.specs.Replays.{setup_of}
use Rattle.haloop_run.specs.steps.Runs.{IsLoadedFor, IsRefusedLoad}
use Rattle.haloop_run.proofs.Replaying.{all_left, can_begin, is_replayed, load_stops, none_ran, run_stops, same_meaning, tables_fit, world_fits}
use Rattle.haloop_run.proofs.replay.replay.Goals as goal

pub returns-in_err-blocks-clause-refused : goal.returns-in_err-blocks-clause-refused
returns-in_err-blocks-clause-refused g c =
    let r = err_from_is_err_and c.from_residual.result c.from_residual.ensures.1 in
    rw (r.1, r.2) (loaded (setup_of c.args.program c.args.schedule c.args.tables), none_ran g.D.Disks c.args.program c.args.schedule c.args.tables c.args.disks.now)

pub returns-in_err-typed-clause-refused : goal.returns-in_err-typed-clause-refused
returns-in_err-typed-clause-refused g c =
    let r = err_from_is_err_and c.from_residual-in_err-typed.result c.from_residual-in_err-typed.ensures.1 in
    rw (r.1, r.2) (loaded (setup_of c.args.program c.args.schedule c.args.tables), none_ran g.D.Disks c.args.program c.args.schedule c.args.tables c.args.disks.now)

pub returns-in_err-functions-clause-refused : goal.returns-in_err-functions-clause-refused
returns-in_err-functions-clause-refused g c =
    let r = err_from_is_err_and c.from_residual-in_err-functions.result c.from_residual-in_err-functions.ensures.1 in
    rw (r.1, r.2) (loaded (setup_of c.args.program c.args.schedule c.args.tables), none_ran g.D.Disks c.args.program c.args.schedule c.args.tables c.args.disks.now)

pub loaded_cluster-requires : goal.loaded_cluster-requires
loaded_cluster-requires g c =
    let shape_is : c.in_ok-typed.field-0.shape ≡ cleared (blocked c.args.program.shape c.in_ok-blocks.blocks) = c.in_ok-typed.ensures.shape ∙ ap (λ (p : Whole). cleared p.shape) c.with_blocks.ensures in
    let is = shape_is ∙ ap (λ (b : List ℕ). cleared (blocked c.args.program.shape b)) c.in_ok-blocks.ensures in
    record {
      can = can_begin c.args.program c.args.schedule c.args.tables c.in_ok-typed.field-0.shape is c.requires.can c.requires.fit c.in_ok-typed.ensures.well_formed c.in_ok-typed.ensures.caches;
      fit = tables_fit c.args.program c.args.schedule c.args.tables c.in_ok-typed.field-0.shape is c.requires.can c.requires.fit c.in_ok-typed.ensures.well_formed;
    }

pub returns-in-Err-clause-left : goal.returns-in-Err-clause-left
returns-in-Err-clause-left g c = c.loaded_cluster.ensures.left

pub returns-in-Err-clause-refused : goal.returns-in-Err-clause-refused
returns-in-Err-clause-refused g c =
    let d = g.D.Disks in
    let old = c.args.disks.now in
    let mid = c.loaded_cluster.new.disks in
    let shape_is : c.in_ok-typed.field-0.shape ≡ cleared (blocked c.args.program.shape c.in_ok-blocks.blocks) = c.in_ok-typed.ensures.shape ∙ ap (λ (p : Whole). cleared p.shape) c.with_blocks.ensures in
    let is = shape_is ∙ ap (λ (b : List ℕ). cleared (blocked c.args.program.shape b)) c.in_ok-blocks.ensures in
    load_stops d c.args.program c.args.schedule c.args.tables old mid
    (subst (λ (s : Shape). (w : World) → IsOver s c.args.tables c.args.schedule.block w → OnTold (RightCalls w) (d.told old) (d.told mid)) is c.loaded_cluster.ensures.texts)
    c.loaded_cluster.ensures.not_missed c.loaded_cluster.ensures.left c.in-Err.fault
    (subst (λ (s : Shape). IsRefusedLoad d (cluster_setup s c.args.schedule) old mid c.in-Err.fault) is c.in-Err.ensures.refused)

pub run-requires : goal.run-requires
run-requires g c = record {
  fits = subst (λ (s : Setup). FunctionsFit (meanings.meaning_of c.in_ok-functions.functions.functions c.in_ok-functions.functions.uses c.in_ok-functions.functions.parts) s.shape) (sym c.in-Ok.ensures.loaded.begun.setup_is)
      (rw c.in_ok-functions.ensures c.in_ok-typed.ensures.fits);
}

pub returns-in-Ok-run-clause-left : goal.returns-in-Ok-run-clause-left
returns-in-Ok-run-clause-left g c =
    let d = g.D.Disks in
    let old = c.args.disks.now in
    let mid = c.loaded_cluster.new.disks in
    let program = c.args.program in
    let schedule = c.args.schedule in
    let tables = c.args.tables in
    let shape_is : c.in_ok-typed.field-0.shape ≡ cleared (blocked program.shape c.in_ok-blocks.blocks) = c.in_ok-typed.ensures.shape ∙ ap (λ (p : Whole). cleared p.shape) c.with_blocks.ensures in
    let is = shape_is ∙ ap (λ (b : List ℕ). cleared (blocked program.shape b)) c.in_ok-blocks.ensures in
    all_left d program schedule tables old mid
    (subst (λ (s : Shape). (w : World) → IsOver s tables schedule.block w → OnTold (RightCalls w) (d.told old) (d.told mid)) is c.loaded_cluster.ensures.texts)
    c.loaded_cluster.ensures.not_missed c.loaded_cluster.ensures.left c.in-Ok.cluster
    (subst (λ (s : Shape). IsLoadedFor d (cluster_setup s schedule) tables old mid c.in-Ok.cluster) is c.in-Ok.ensures.loaded)
    (world_fits program schedule tables c.in_ok-typed.field-0.shape is c.requires.can c.requires.fit c.in_ok-typed.ensures.well_formed
    (subst (λ (m : Meaning). FunctionsFit m c.in_ok-typed.field-0.shape) (same_meaning program c.with_blocks.result c.in_ok-blocks.blocks c.in_ok-typed.field-0.typed c.in_ok-typed.field-0.uses c.in_ok-typed.field-0.shape c.with_blocks.ensures c.in_ok-typed.ensures.functions c.in_ok-typed.ensures.uses c.in_ok-typed.ensures.shape) c.in_ok-typed.ensures.fits))
    c.run.new.disks c.run.new.self.state c.run.ensures.disks

pub returns-clause-left : goal.returns-clause-left
returns-clause-left g c =
    let d = g.D.Disks in
    let old = c.args.disks.now in
    let mid = c.loaded_cluster.new.disks in
    let program = c.args.program in
    let schedule = c.args.schedule in
    let tables = c.args.tables in
    let shape_is : c.in_ok-typed.field-0.shape ≡ cleared (blocked program.shape c.in_ok-blocks.blocks) = c.in_ok-typed.ensures.shape ∙ ap (λ (p : Whole). cleared p.shape) c.with_blocks.ensures in
    let is = shape_is ∙ ap (λ (b : List ℕ). cleared (blocked program.shape b)) c.in_ok-blocks.ensures in
    all_left d program schedule tables old mid
    (subst (λ (s : Shape). (w : World) → IsOver s tables schedule.block w → OnTold (RightCalls w) (d.told old) (d.told mid)) is c.loaded_cluster.ensures.texts)
    c.loaded_cluster.ensures.not_missed c.loaded_cluster.ensures.left c.in-Ok.cluster
    (subst (λ (s : Shape). IsLoadedFor d (cluster_setup s schedule) tables old mid c.in-Ok.cluster) is c.in-Ok.ensures.loaded)
    (world_fits program schedule tables c.in_ok-typed.field-0.shape is c.requires.can c.requires.fit c.in_ok-typed.ensures.well_formed
    (subst (λ (m : Meaning). FunctionsFit m c.in_ok-typed.field-0.shape) (same_meaning program c.with_blocks.result c.in_ok-blocks.blocks c.in_ok-typed.field-0.typed c.in_ok-typed.field-0.uses c.in_ok-typed.field-0.shape c.with_blocks.ensures c.in_ok-typed.ensures.functions c.in_ok-typed.ensures.uses c.in_ok-typed.ensures.shape) c.in_ok-typed.ensures.fits))
    c.run.new.disks c.run.new.self.state c.run.ensures.disks

pub returns-in-Ok-run-clause-replayed : goal.returns-in-Ok-run-clause-replayed
returns-in-Ok-run-clause-replayed g c =
    let d = g.D.Disks in
    let old = c.args.disks.now in
    let mid = c.loaded_cluster.new.disks in
    let new = c.run.new.disks in
    let program = c.args.program in
    let schedule = c.args.schedule in
    let tables = c.args.tables in
    let cluster = c.in-Ok.cluster in
    let it = c.in-Ok-run.finished in
    let state = c.run.new.self.state in
    let shape_is : c.in_ok-typed.field-0.shape ≡ cleared (blocked program.shape c.in_ok-blocks.blocks) = c.in_ok-typed.ensures.shape ∙ ap (λ (p : Whole). cleared p.shape) c.with_blocks.ensures in
    let is = shape_is ∙ ap (λ (b : List ℕ). cleared (blocked program.shape b)) c.in_ok-blocks.ensures in
    let made = same_meaning program c.with_blocks.result c.in_ok-blocks.blocks c.in_ok-typed.field-0.typed c.in_ok-typed.field-0.uses c.in_ok-typed.field-0.shape c.with_blocks.ensures c.in_ok-typed.ensures.functions c.in_ok-typed.ensures.uses c.in_ok-typed.ensures.shape in
    let run : meanings.meaning_of c.in_ok-functions.functions.functions c.in_ok-functions.functions.uses c.in_ok-functions.functions.parts ≡ meaning_of program = rw c.in_ok-functions.ensures made in
    let none = c.in-Ok.ensures.loaded.begun.answers in
    let inside = subst (λ (s : Seen). s.plain ≡ plain_of s.setup.schedule s.kept) c.drop-in-Ok-run.view_is refl in
    let seen = subst (λ (p : Progress). p.state.plain ≡ plain_of p.state.setup.schedule p.state.kept) c.cluster.view_is inside in
    is_replayed d program schedule tables old mid
    (subst (λ (s : Shape). (w : World) → IsOver s tables schedule.block w → OnTold (RightCalls w) (d.told old) (d.told mid)) is c.loaded_cluster.ensures.texts)
    c.loaded_cluster.ensures.not_missed c.loaded_cluster.ensures.left cluster
    (subst (λ (s : Shape). IsLoadedFor d (cluster_setup s schedule) tables old mid cluster) is c.in-Ok.ensures.loaded)
    (world_fits program schedule tables c.in_ok-typed.field-0.shape is c.requires.can c.requires.fit c.in_ok-typed.ensures.well_formed (subst (λ (m : Meaning). FunctionsFit m c.in_ok-typed.field-0.shape) made c.in_ok-typed.ensures.fits))
    new state c.run.ensures.disks it (subst (λ (m : Meaning). RanToEnd m cluster.state (d.told mid) state (d.told new) it) run (c.in-Ok-run.ensures.finished none))
    (subst (λ (m : Meaning). IsByChain m cluster.state (d.shows_damage mid) (d.told mid) (d.told new) state.plain (Ok it)) run (c.in-Ok-run.ensures.by_chain none))
    (subst (λ (m : Meaning). d.shows_damage mid → OverRight m cluster.state.setup (d.told mid) cluster.state.kept (λ w. OnTold (RightCalls w) (d.told mid) (d.told new))) run (c.in-Ok-run.ensures.texts none))
    (subst (λ (m : Meaning). d.sound mid → OverRight m cluster.state.setup (d.told mid) cluster.state.kept (λ w. (d.misses new ≡ d.misses mid) × Unit {0})) run (c.in-Ok-run.ensures.unmissed none))
    (subst (λ (m : Meaning). IsRightAfter m cluster.state (d.shows_damage mid) (d.told mid) (d.told new) state.kept (Some it)) run (c.in-Ok-run.ensures.right none))
    seen c.tally.result (c.tally.ensures ∙ ap tally (c.journal.ensures))

pub returns-clause-refused : goal.returns-clause-refused
returns-clause-refused g c =
    let d = g.D.Disks in
    let old = c.args.disks.now in
    let mid = c.loaded_cluster.new.disks in
    let new = c.run.new.disks in
    let program = c.args.program in
    let schedule = c.args.schedule in
    let tables = c.args.tables in
    let cluster = c.in-Ok.cluster in
    let fault = c.in-Err-run.fault in
    let state = c.run.new.self.state in
    let shape_is : c.in_ok-typed.field-0.shape ≡ cleared (blocked program.shape c.in_ok-blocks.blocks) = c.in_ok-typed.ensures.shape ∙ ap (λ (p : Whole). cleared p.shape) c.with_blocks.ensures in
    let is = shape_is ∙ ap (λ (b : List ℕ). cleared (blocked program.shape b)) c.in_ok-blocks.ensures in
    let made = same_meaning program c.with_blocks.result c.in_ok-blocks.blocks c.in_ok-typed.field-0.typed c.in_ok-typed.field-0.uses c.in_ok-typed.field-0.shape c.with_blocks.ensures c.in_ok-typed.ensures.functions c.in_ok-typed.ensures.uses c.in_ok-typed.ensures.shape in
    let run : meanings.meaning_of c.in_ok-functions.functions.functions c.in_ok-functions.functions.uses c.in_ok-functions.functions.parts ≡ meaning_of program = rw c.in_ok-functions.ensures made in
    let none = c.in-Ok.ensures.loaded.begun.answers in
    let inside = subst (λ (s : Seen). s.plain ≡ plain_of s.setup.schedule s.kept) c.drop-2.view_is refl in
    let seen = subst (λ (p : Progress). p.state.plain ≡ plain_of p.state.setup.schedule p.state.kept) c.cluster.view_is inside in
    run_stops d program schedule tables old mid
    (subst (λ (s : Shape). (w : World) → IsOver s tables schedule.block w → OnTold (RightCalls w) (d.told old) (d.told mid)) is c.loaded_cluster.ensures.texts)
    c.loaded_cluster.ensures.not_missed c.loaded_cluster.ensures.left cluster
    (subst (λ (s : Shape). IsLoadedFor d (cluster_setup s schedule) tables old mid cluster) is c.in-Ok.ensures.loaded)
    (world_fits program schedule tables c.in_ok-typed.field-0.shape is c.requires.can c.requires.fit c.in_ok-typed.ensures.well_formed (subst (λ (m : Meaning). FunctionsFit m c.in_ok-typed.field-0.shape) made c.in_ok-typed.ensures.fits))
    new state c.run.ensures.disks seen (c.loaded_cluster.ensures.left.faults_stay, c.loaded_cluster.ensures.left.misses_stay) fault (subst (λ (m : Meaning). RanToFault m cluster.state (d.told mid) state (d.told new) fault) run (c.in-Err-run.ensures.refused none))
    (subst (λ (m : Meaning). IsByChain m cluster.state (d.shows_damage mid) (d.told mid) (d.told new) state.plain (Err fault)) run (c.in-Err-run.ensures.by_chain none))
    (subst (λ (m : Meaning). d.shows_damage mid → OverRight m cluster.state.setup (d.told mid) cluster.state.kept (λ w. OnTold (RightCalls w) (d.told mid) (d.told new))) run (c.in-Err-run.ensures.texts none))
    (subst (λ (m : Meaning). d.sound mid → OverRight m cluster.state.setup (d.told mid) cluster.state.kept (λ w. (d.misses new ≡ d.misses mid) × AtMissed fault ⊥)) run (c.in-Err-run.ensures.unmissed none))
    (subst (λ (m : Meaning). AtRefusal fault (StaysRight m cluster.state.setup (d.shows_damage mid) (d.told mid) (d.told new) cluster.state.kept state.kept)) run (c.in-Err-run.ensures.still none))
    c.in-Err-run.ensures.device c.in-Err-run.ensures.missed
