use Rattle.std.proofs.Common.{◌≡◌, true, ap, ◌∙◌, None, refl, Some, sym, subst}
use Rattle.run_model.specs.Advance.{is_decided, read_parts}
use Rattle.run_model.specs.Plans.{gives}
use Rattle.run_model.specs.Tasks.{last_outs}
use Rattle.valid_copies.specs.Calls.{Follows}
use Rattle.cluster_core.specs.Faults.{StoppedIn}
use Rattle.run_laws.specs.States.{Timely}
use Rattle.cluster_core.specs.Deciding.{Tells}
use Rattle.cluster_core.specs.States.{Seen}
use Rattle.cluster_core.proofs.Rightness.{decided_tells, end_right}
use Rattle.cluster_core.proofs.Inside.{kept_in, plain_in, setup_in}
use Rattle.cluster_core.specs.Turns.{Rightly, decision_in, parts_read}
use Rattle.cluster_core.proofs.Onward.{begins_ending, ends_with, goes_past, stops_ending}
use Rattle.name_values.specs.Values.{World}
use Rattle.valid_copies.specs.RightCalls.{RightWork}
use Rattle.valid_copies.specs.Stands.{Stands}
use Rattle.valid_copies.specs.Faults as work
use Rattle.valid_copies.proofs.WrittenCalls.{reads_ask, reads_keep, reads_write_nothing}
use Rattle.valid_copies.specs.LastWrites.{AsksByDigests, KeepsDigests}
use Rattle.replica_table.specs.Copies.{Replicas}
use Rattle.cluster_core.proofs.Refused.{missed_so}
use Rattle.cluster_core.proofs.state.State.end_with.Goals as goal

pub returns-in-Ok-clause-read : goal.returns-in-Ok-clause-read
returns-in-Ok-clause-read g c = ends_with c.args.self.now.setup c.args.end c.args.self.now.plain c.note_end.new.self.plain c.in-Ok-Some.parts (g.D.Disks.told c.args.disks.now) (g.D.Disks.told c.read_parts.new.disks) (subst (λ (s : Seen). Follows (read_parts c.args.end (last_outs s.setup.shape s.plain.round) s.plain) (g.D.Disks.told c.args.disks.now) (g.D.Disks.told c.read_parts.new.disks) (gives (parts_read s.plain (Some c.in-Ok-Some.parts) c.args.end))) c.self.view_is ((rw c.in-Ok-Some.field-0-is at c.in-Ok-Some.ensures.read) (plain_in c.self.inside) (record { copies = refl; up = refl }) c.args.end)) c.in-Ok.ensures.noted

pub returns-in-Err-note_end-clause-stopped : goal.returns-in-Err-note_end-clause-stopped
returns-in-Err-note_end-clause-stopped g c = begins_ending c.args.self.now.setup c.args.end c.args.self.now.plain (parts_read c.args.self.now.plain (Some c.in-Ok-Some.parts) c.args.end) (g.D.Disks.told c.args.disks.now) (g.D.Disks.told c.read_parts.new.disks) (subst (λ (s : Seen). Follows (read_parts c.args.end (last_outs s.setup.shape s.plain.round) s.plain) (g.D.Disks.told c.args.disks.now) (g.D.Disks.told c.read_parts.new.disks) (gives (parts_read s.plain (Some c.in-Ok-Some.parts) c.args.end))) c.self.view_is ((rw c.in-Ok-Some.field-0-is at c.in-Ok-Some.ensures.read) (plain_in c.self.inside) (record { copies = refl; up = refl }) c.args.end))

pub returns-in-Ok-None-clause-read : goal.returns-in-Ok-None-clause-read
returns-in-Ok-None-clause-read g c = goes_past c.args.self.now.setup c.args.end c.args.self.now.plain c.pass.new.self.plain (g.D.Disks.told c.args.disks.now) (g.D.Disks.told c.read_parts.new.disks) (subst (λ (s : Seen). Follows (read_parts c.args.end (last_outs s.setup.shape s.plain.round) s.plain) (g.D.Disks.told c.args.disks.now) (g.D.Disks.told c.read_parts.new.disks) (gives (parts_read s.plain None c.args.end))) c.self.view_is ((rw c.in-Ok-None.field-0-is at c.in-Ok-None.ensures.read) (plain_in c.self.inside) (record { copies = refl; up = refl }) c.args.end)) c.pass.ensures.passed

pub returns-in-Err-clause-stopped : goal.returns-in-Err-clause-stopped
returns-in-Err-clause-stopped g c = stops_ending c.args.self.now.setup c.args.end c.args.self.now.plain (g.D.Disks.told c.args.disks.now) (g.D.Disks.told c.read_parts.new.disks) c.in-Err.fault (subst (λ (s : Seen). StoppedIn (read_parts c.args.end (last_outs s.setup.shape s.plain.round) s.plain) (g.D.Disks.told c.args.disks.now) (g.D.Disks.told c.read_parts.new.disks) c.in-Err.fault) c.self.view_is (c.in-Err.ensures.stopped (plain_in c.self.inside) (record { copies = refl; up = refl }) c.args.end))

pub returns-in-Ok-clause-right : goal.returns-in-Ok-clause-right
returns-in-Ok-clause-right g c = λ v right.
    let r = subst (λ (s : Seen). Rightly v s.setup.shape (g.D.Disks.shows_damage c.args.disks.now) (g.D.Disks.told c.args.disks.now) s.kept) (sym c.self.view_is) right in
    let decided = subst (λ (s : Seen). is_decided s.setup s.plain ≡ true) (sym c.self.view_is) c.requires.decided in
    let ends = subst (λ (s : Seen). decision_in s ≡ Some c.args.end) (sym c.self.view_is) c.requires.ends in
    let time = subst (λ (s : Seen). Timely s.setup s.plain.round s.plain.events) (sym c.self.view_is) c.requires.orderly.reached.time in
    let tells = decided_tells v (setup_in c.self.inside) (g.D.Disks.shows_damage c.args.disks.now) (g.D.Disks.told c.args.disks.now) (kept_in c.self.inside) r c.self.invariant.tests decided time.begun time.in_time in
    let parts = (rw c.in-Ok-Some.field-0-is at c.in-Ok-Some.ensures.value) r.shown r.told_is v r.shape_is r.stands.copies in
    end_right v (setup_in c.self.inside) (g.D.Disks.shows_damage c.args.disks.now) (g.D.Disks.told c.args.disks.now) (g.D.Disks.told c.read_parts.new.disks) (kept_in c.self.inside) c.note_end.new.self.kept (record { parts = c.in-Ok-Some.parts; rounds = c.self.inside.round; end = c.args.end }) r (λ copies stands. c.in-Ok-Some.ensures.valid v copies stands)
    (subst (Tells v c.self.inside.round) ends tells) time.begun refl parts
    (c.in-Ok.ensures.table ∙ ap (λ (s : Seen). s.kept.table) (sym c.self.view_is)) (c.in-Ok.ensures.values ∙ ap (λ (s : Seen). s.kept.values) (sym c.self.view_is)) (c.in-Ok.ensures.round ∙ ap (λ (s : Seen). s.kept.round) (sym c.self.view_is))

pub returns-in-Ok-clause-calls : goal.returns-in-Ok-clause-calls
returns-in-Ok-clause-calls g c = subst (λ (s : Seen). (w : World) → Stands w s.kept.table.copies (g.D.Disks.told c.args.disks.now) → RightWork g.D.Disks w c.args.disks.now c.read_parts.new.disks (Unit {0})) c.self.view_is c.in-Ok-Some.ensures.calls

pub returns-in-Err-note_end-clause-calls : goal.returns-in-Err-note_end-clause-calls
returns-in-Err-note_end-clause-calls g c = subst (λ (s : Seen). (w : World) → Stands w s.kept.table.copies (g.D.Disks.told c.args.disks.now) → RightWork g.D.Disks w c.args.disks.now c.read_parts.new.disks (Unit {0})) c.self.view_is c.in-Ok-Some.ensures.calls

pub returns-in-Ok-None-clause-calls : goal.returns-in-Ok-None-clause-calls
returns-in-Ok-None-clause-calls g c = subst (λ (s : Seen). (w : World) → Stands w s.kept.table.copies (g.D.Disks.told c.args.disks.now) → RightWork g.D.Disks w c.args.disks.now c.read_parts.new.disks (Unit {0})) c.self.view_is c.in-Ok-None.ensures.calls

pub returns-in-Err-clause-calls : goal.returns-in-Err-clause-calls
returns-in-Err-clause-calls g c = subst (λ (s : Seen). (w : World) → Stands w s.kept.table.copies (g.D.Disks.told c.args.disks.now) → RightWork g.D.Disks w c.args.disks.now c.read_parts.new.disks (work.AtMissed c.in-Err.fault ⊥)) c.self.view_is c.in-Err.ensures.calls

pub returns-in-Ok-clause-agree : goal.returns-in-Ok-clause-agree
returns-in-Ok-clause-agree g c =
    subst (λ (t : Replicas). KeepsDigests c.args.self.now.kept.table.copies t.copies (g.D.Disks.told c.args.disks.now) (g.D.Disks.told c.read_parts.new.disks)) (sym c.in-Ok.ensures.table)
    (subst (λ (s : Seen). KeepsDigests s.kept.table.copies s.kept.table.copies (g.D.Disks.told c.args.disks.now) (g.D.Disks.told c.read_parts.new.disks)) c.self.view_is (reads_keep c.self.inside.table.copies (g.D.Disks.told c.args.disks.now) (g.D.Disks.told c.read_parts.new.disks) c.in-Ok-Some.ensures.asked))

pub returns-in-Ok-clause-asks : goal.returns-in-Ok-clause-asks
returns-in-Ok-clause-asks g c = subst (λ (s : Seen). AsksByDigests s.kept.table.copies (g.D.Disks.told c.args.disks.now) (g.D.Disks.told c.read_parts.new.disks)) c.self.view_is (reads_ask c.self.inside.table.copies (g.D.Disks.told c.args.disks.now) (g.D.Disks.told c.read_parts.new.disks) c.in-Ok-Some.ensures.asked)

pub returns-in-Ok-clause-wrote_nothing : goal.returns-in-Ok-clause-wrote_nothing
returns-in-Ok-clause-wrote_nothing g c = reads_write_nothing c.self.inside.table.copies (g.D.Disks.told c.args.disks.now) (g.D.Disks.told c.read_parts.new.disks) c.in-Ok-Some.ensures.asked

pub returns-in-Err-note_end-clause-asks : goal.returns-in-Err-note_end-clause-asks
returns-in-Err-note_end-clause-asks g c = subst (λ (s : Seen). AsksByDigests s.kept.table.copies (g.D.Disks.told c.args.disks.now) (g.D.Disks.told c.read_parts.new.disks)) c.self.view_is (reads_ask c.self.inside.table.copies (g.D.Disks.told c.args.disks.now) (g.D.Disks.told c.read_parts.new.disks) c.in-Ok-Some.ensures.asked)

pub returns-in-Err-note_end-clause-wrote_nothing : goal.returns-in-Err-note_end-clause-wrote_nothing
returns-in-Err-note_end-clause-wrote_nothing g c = reads_write_nothing c.self.inside.table.copies (g.D.Disks.told c.args.disks.now) (g.D.Disks.told c.read_parts.new.disks) c.in-Ok-Some.ensures.asked

pub returns-in-Ok-None-clause-agree : goal.returns-in-Ok-None-clause-agree
returns-in-Ok-None-clause-agree g c =
    subst (λ (t : Replicas). KeepsDigests c.args.self.now.kept.table.copies t.copies (g.D.Disks.told c.args.disks.now) (g.D.Disks.told c.read_parts.new.disks)) (sym c.pass.ensures.table)
    (subst (λ (s : Seen). KeepsDigests s.kept.table.copies s.kept.table.copies (g.D.Disks.told c.args.disks.now) (g.D.Disks.told c.read_parts.new.disks)) c.self.view_is (reads_keep c.self.inside.table.copies (g.D.Disks.told c.args.disks.now) (g.D.Disks.told c.read_parts.new.disks) c.in-Ok-None.ensures.asked))

pub returns-in-Ok-None-clause-asks : goal.returns-in-Ok-None-clause-asks
returns-in-Ok-None-clause-asks g c = subst (λ (s : Seen). AsksByDigests s.kept.table.copies (g.D.Disks.told c.args.disks.now) (g.D.Disks.told c.read_parts.new.disks)) c.self.view_is (reads_ask c.self.inside.table.copies (g.D.Disks.told c.args.disks.now) (g.D.Disks.told c.read_parts.new.disks) c.in-Ok-None.ensures.asked)

pub returns-in-Ok-None-clause-wrote_nothing : goal.returns-in-Ok-None-clause-wrote_nothing
returns-in-Ok-None-clause-wrote_nothing g c = reads_write_nothing c.self.inside.table.copies (g.D.Disks.told c.args.disks.now) (g.D.Disks.told c.read_parts.new.disks) c.in-Ok-None.ensures.asked

pub returns-in-Err-clause-agree_still : goal.returns-in-Err-clause-agree_still
returns-in-Err-clause-agree_still g c = missed_so c.in-Err.fault (subst (λ (s : Seen). KeepsDigests s.kept.table.copies s.kept.table.copies (g.D.Disks.told c.args.disks.now) (g.D.Disks.told c.read_parts.new.disks)) c.self.view_is (reads_keep c.self.inside.table.copies (g.D.Disks.told c.args.disks.now) (g.D.Disks.told c.read_parts.new.disks) c.in-Err.ensures.asked))

pub returns-in-Err-clause-asks : goal.returns-in-Err-clause-asks
returns-in-Err-clause-asks g c = subst (λ (s : Seen). AsksByDigests s.kept.table.copies (g.D.Disks.told c.args.disks.now) (g.D.Disks.told c.read_parts.new.disks)) c.self.view_is (reads_ask c.self.inside.table.copies (g.D.Disks.told c.args.disks.now) (g.D.Disks.told c.read_parts.new.disks) c.in-Err.ensures.asked)

pub returns-in-Err-clause-wrote_nothing : goal.returns-in-Err-clause-wrote_nothing
returns-in-Err-clause-wrote_nothing g c = reads_write_nothing c.self.inside.table.copies (g.D.Disks.told c.args.disks.now) (g.D.Disks.told c.read_parts.new.disks) c.in-Err.ensures.asked
