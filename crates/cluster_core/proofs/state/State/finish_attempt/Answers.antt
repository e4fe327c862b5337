use Rattle.std.proofs.Common.{None, sym, subst, refl}
use Rattle.cluster_core.specs.Finishing.{desk_of}
use Rattle.cluster_core.specs.Outputs.{CanCompute}
use Rattle.cluster_core.proofs.Computing.{can_compute}
use Rattle.cluster_core.proofs.Done.{read_and_begun, read_and_committed, reads_stopped, starved_begun, starved_done}
use Rattle.std.proofs.lemmas.Result.{on_ok_weaker}
use Rattle.cluster_core.proofs.ReadRight.{read_right}
use Rattle.cluster_core.proofs.Left.{leaves_more}
use Rattle.cluster_core.proofs.RightTurns.{attempt_calls, read_calls}
use Rattle.std.proofs.lemmas.Result.{on_err_weaker}
use Rattle.valid_copies.proofs.WrittenCalls.{ask_more, reads_ask, reads_keep, reads_write_nothing}
use Rattle.cluster_core.proofs.Origins.{made_nothing, made_of_reads, none_new}
use Rattle.cluster_core.proofs.Refused.{missed_so, on_missed_weaker}
use Rattle.valid_copies.specs.LastWrites.{DigestsAgree}
use Rattle.replica_table.specs.Copies.{Replicas}
use Rattle.run_laws.specs.States.{IsNow}
use Rattle.cluster_core.proofs.state.State.finish_attempt.Goals as goal

pub complete-requires-clause-inputs : goal.complete-requires-clause-inputs
complete-requires-clause-inputs g c =
    let read = rw c.in-Ok-Some.field-0-is at c.in-Ok-Some.ensures.read in
    subst (CanCompute c.args.self.now.setup.shape c.args.attempt.now.task) (sym read.rows) (can_compute (g.F.Functions.meaning c.args.functions.now) (desk_of c.args.self.now c.args.attempt.now) c.read_needs.ensures.shape c.requires.fits c.args.attempt.now.task c.requires.can.task read.reads read.each)

pub returns-in-Ok-Some-clause-done : goal.returns-in-Ok-Some-clause-done
returns-in-Ok-Some-clause-done g c =
    let read = rw c.in-Ok-Some.field-0-is at c.in-Ok-Some.ensures.read in
    read_and_committed c.args.self.now c.args.attempt.now _ _ _ _ c.in-Ok-Some.read.counts c.in-Ok-Some.read.lists.items c.complete.new.self.plain c.complete.result read c.complete.ensures.committed

pub returns-in-Ok-Some-clause-stopped : goal.returns-in-Ok-Some-clause-stopped
returns-in-Ok-Some-clause-stopped g c =
    let read = rw c.in-Ok-Some.field-0-is at c.in-Ok-Some.ensures.read in
    read_and_begun c.args.self.now c.args.attempt.now _ _ _ _ c.in-Ok-Some.read.counts c.in-Ok-Some.read.lists.items c.complete.result read c.complete.ensures.begun c.complete.ensures.missed

pub returns-in-Ok-Some-clause-disks : goal.returns-in-Ok-Some-clause-disks
returns-in-Ok-Some-clause-disks g c = leaves_more g.D.Disks c.args.self.now.setup.schedule.nodes c.args.disks.now c.read_needs.new.disks c.complete.new.disks c.read_needs.ensures.disks c.complete.ensures.disks

pub returns-in-Ok-clause-done : goal.returns-in-Ok-clause-done
returns-in-Ok-clause-done g c =
    let read = rw c.in-Ok-None.field-0-is at c.in-Ok-None.ensures.read in
    starved_done c.args.self.now c.args.attempt.now _ _ c.starve.new.self.plain read c.in-Ok.ensures.noted

pub returns-in-Err-starve-clause-stopped : goal.returns-in-Err-starve-clause-stopped
returns-in-Err-starve-clause-stopped g c =
    let read = rw c.in-Ok-None.field-0-is at c.in-Ok-None.ensures.read in
    starved_begun c.args.self.now c.args.attempt.now _ _ read

pub returns-in-Err-clause-stopped : goal.returns-in-Err-clause-stopped
returns-in-Err-clause-stopped g c = reads_stopped c.args.self.now c.args.attempt.now _ _ c.in-Err.fault c.in-Err.ensures.stopped

pub returns-in-Ok-Some-clause-right : goal.returns-in-Ok-Some-clause-right
returns-in-Ok-Some-clause-right g c =
    let read = rw c.in-Ok-Some.field-0-is at c.in-Ok-Some.ensures.read in
    on_ok_weaker c.complete.result (λ right. read_right (g.F.Functions.meaning c.args.functions.now) c.args.self.now c.args.attempt.now (g.D.Disks.shows_damage c.args.disks.now) (g.D.Disks.told c.args.disks.now) (g.D.Disks.told c.read_needs.new.disks) (g.D.Disks.told c.complete.new.disks) c.in-Ok-Some.read.counts c.in-Ok-Some.read.lists.items c.complete.new.self.kept c.requires.can c.requires.now read c.read_needs.ensures.valid right) c.complete.ensures.right

pub returns-in-Ok-Some-clause-calls : goal.returns-in-Ok-Some-clause-calls
returns-in-Ok-Some-clause-calls g c =
    let read = rw c.in-Ok-Some.field-0-is at c.in-Ok-Some.ensures.read in
    attempt_calls g.D.Disks (g.F.Functions.meaning c.args.functions.now) c.args.self.now c.args.attempt.now c.args.disks.now c.read_needs.new.disks c.complete.new.disks c.in-Ok-Some.read.counts c.in-Ok-Some.read.lists.items _ _ c.requires.can c.requires.now read c.in-Ok-Some.ensures.calls c.complete.ensures.calls

pub returns-in-Ok-clause-calls : goal.returns-in-Ok-clause-calls
returns-in-Ok-clause-calls g c = read_calls g.D.Disks (g.F.Functions.meaning c.args.functions.now) c.args.self.now.setup c.args.self.now.kept c.args.disks.now c.read_needs.new.disks _ c.in-Ok-None.ensures.calls

pub returns-in-Err-starve-clause-calls : goal.returns-in-Err-starve-clause-calls
returns-in-Err-starve-clause-calls g c = read_calls g.D.Disks (g.F.Functions.meaning c.args.functions.now) c.args.self.now.setup c.args.self.now.kept c.args.disks.now c.read_needs.new.disks _ c.in-Ok-None.ensures.calls

pub returns-in-Err-clause-calls : goal.returns-in-Err-clause-calls
returns-in-Err-clause-calls g c = read_calls g.D.Disks (g.F.Functions.meaning c.args.functions.now) c.args.self.now.setup c.args.self.now.kept c.args.disks.now c.read_needs.new.disks _ c.in-Err.ensures.calls

pub returns-in-Ok-Some-clause-keeps : goal.returns-in-Ok-Some-clause-keeps
returns-in-Ok-Some-clause-keeps g c =
    let read = rw c.in-Ok-Some.field-0-is at c.in-Ok-Some.ensures.read in
    on_err_weaker c.complete.result (λ right. read_right (g.F.Functions.meaning c.args.functions.now) c.args.self.now c.args.attempt.now (g.D.Disks.shows_damage c.args.disks.now) (g.D.Disks.told c.args.disks.now) (g.D.Disks.told c.read_needs.new.disks) None c.in-Ok-Some.read.counts c.in-Ok-Some.read.lists.items c.complete.new.self.kept c.requires.can c.requires.now read c.read_needs.ensures.valid right) c.complete.ensures.keeps

pub returns-in-Ok-Some-clause-agree : goal.returns-in-Ok-Some-clause-agree
returns-in-Ok-Some-clause-agree g c = on_ok_weaker c.complete.result (λ keep agree. keep (reads_keep c.args.self.now.kept.table.copies (g.D.Disks.told c.args.disks.now) (g.D.Disks.told c.read_needs.new.disks) c.read_needs.ensures.asked agree)) c.complete.ensures.agree

pub returns-in-Ok-Some-clause-agree_still : goal.returns-in-Ok-Some-clause-agree_still
returns-in-Ok-Some-clause-agree_still g c = on_missed_weaker c.complete.result (λ none. absurd none) c.complete.ensures.missed

pub returns-in-Ok-Some-clause-asks : goal.returns-in-Ok-Some-clause-asks
returns-in-Ok-Some-clause-asks g c = ask_more c.args.self.now.kept.table.copies c.args.self.now.kept.table.copies (g.D.Disks.told c.args.disks.now) (g.D.Disks.told c.read_needs.new.disks) (g.D.Disks.told c.complete.new.disks) (reads_ask c.args.self.now.kept.table.copies (g.D.Disks.told c.args.disks.now) (g.D.Disks.told c.read_needs.new.disks) c.read_needs.ensures.asked) (reads_keep c.args.self.now.kept.table.copies (g.D.Disks.told c.args.disks.now) (g.D.Disks.told c.read_needs.new.disks) c.read_needs.ensures.asked) c.complete.ensures.asks

pub returns-in-Ok-Some-clause-made : goal.returns-in-Ok-Some-clause-made
returns-in-Ok-Some-clause-made g c =
    let read = rw c.in-Ok-Some.field-0-is at c.in-Ok-Some.ensures.read in
    let now = subst (λ round. IsNow round c.args.attempt.now.task) (sym c.complete.ensures.round) c.requires.now in
    made_of_reads (g.F.Functions.meaning c.args.functions.now) c.args.self.now.setup.shape c.complete.new.self.kept.round c.args.self.now c.args.attempt.now (g.D.Disks.shows_damage c.args.disks.now) (g.D.Disks.told c.args.disks.now) (g.D.Disks.told c.read_needs.new.disks) (g.D.Disks.told c.complete.new.disks) c.in-Ok-Some.read.counts c.in-Ok-Some.read.lists.items c.complete.new.self.kept.values refl now read c.complete.ensures.made

pub returns-in-Ok-clause-agree : goal.returns-in-Ok-clause-agree
returns-in-Ok-clause-agree g c = λ agree. subst (λ (t : Replicas). DigestsAgree t.copies (g.D.Disks.told c.read_needs.new.disks)) (sym c.starve.ensures.kept) (reads_keep c.args.self.now.kept.table.copies (g.D.Disks.told c.args.disks.now) (g.D.Disks.told c.read_needs.new.disks) c.read_needs.ensures.asked agree)

pub returns-in-Ok-clause-asks : goal.returns-in-Ok-clause-asks
returns-in-Ok-clause-asks g c = reads_ask c.args.self.now.kept.table.copies (g.D.Disks.told c.args.disks.now) (g.D.Disks.told c.read_needs.new.disks) c.read_needs.ensures.asked

pub returns-in-Ok-clause-made : goal.returns-in-Ok-clause-made
returns-in-Ok-clause-made g c = made_nothing (g.F.Functions.meaning c.args.functions.now) c.args.self.now.setup.shape c.starve.new.self.kept.round c.args.self.now.kept.values c.starve.new.self.kept.values (g.D.Disks.told c.args.disks.now) (g.D.Disks.told c.read_needs.new.disks) (reads_write_nothing c.args.self.now.kept.table.copies (g.D.Disks.told c.args.disks.now) (g.D.Disks.told c.read_needs.new.disks) c.read_needs.ensures.asked) (none_new c.args.self.now.kept.values c.starve.new.self.kept.values c.starve.ensures.values)

pub returns-in-Err-starve-clause-asks : goal.returns-in-Err-starve-clause-asks
returns-in-Err-starve-clause-asks g c = reads_ask c.args.self.now.kept.table.copies (g.D.Disks.told c.args.disks.now) (g.D.Disks.told c.read_needs.new.disks) c.read_needs.ensures.asked

pub returns-in-Err-starve-clause-made : goal.returns-in-Err-starve-clause-made
returns-in-Err-starve-clause-made g c = made_nothing (g.F.Functions.meaning c.args.functions.now) c.args.self.now.setup.shape c.starve.new.self.kept.round c.args.self.now.kept.values c.starve.new.self.kept.values (g.D.Disks.told c.args.disks.now) (g.D.Disks.told c.read_needs.new.disks) (reads_write_nothing c.args.self.now.kept.table.copies (g.D.Disks.told c.args.disks.now) (g.D.Disks.told c.read_needs.new.disks) c.read_needs.ensures.asked) (none_new c.args.self.now.kept.values c.starve.new.self.kept.values c.starve.ensures.values)

pub returns-in-Err-clause-agree_still : goal.returns-in-Err-clause-agree_still
returns-in-Err-clause-agree_still g c = missed_so c.in-Err.fault (reads_keep c.args.self.now.kept.table.copies (g.D.Disks.told c.args.disks.now) (g.D.Disks.told c.read_needs.new.disks) c.read_needs.ensures.asked)

pub returns-in-Err-clause-asks : goal.returns-in-Err-clause-asks
returns-in-Err-clause-asks g c = reads_ask c.args.self.now.kept.table.copies (g.D.Disks.told c.args.disks.now) (g.D.Disks.told c.read_needs.new.disks) c.read_needs.ensures.asked

pub returns-in-Err-clause-made : goal.returns-in-Err-clause-made
returns-in-Err-clause-made g c = made_nothing (g.F.Functions.meaning c.args.functions.now) c.args.self.now.setup.shape c.args.self.now.kept.round c.args.self.now.kept.values c.args.self.now.kept.values (g.D.Disks.told c.args.disks.now) (g.D.Disks.told c.read_needs.new.disks) (reads_write_nothing c.args.self.now.kept.table.copies (g.D.Disks.told c.args.disks.now) (g.D.Disks.told c.read_needs.new.disks) c.read_needs.ensures.asked) (none_new c.args.self.now.kept.values c.args.self.now.kept.values refl)
