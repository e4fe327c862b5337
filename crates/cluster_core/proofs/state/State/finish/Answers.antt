use Rattle.std.proofs.Common.{None, sym, subst}
use Rattle.cluster_core.specs.States.{Seen}
use Rattle.cluster_core.specs.Works.{CanWork}
use Rattle.cluster_core.proofs.Inside.{kept_in, plain_in, setup_in}
use Rattle.std.proofs.lemmas.Result.{on_ok_weaker}
use Rattle.cluster_core.proofs.Refused.{on_missed_weaker}
use Rattle.cluster_core.proofs.StaysRight.{stays_out}
use Rattle.cluster_core.proofs.Done.{can_finish, in_got, stopped_out}
use Rattle.std.proofs.Common.{IfErr, refl}
use Rattle.cluster_core.specs.Works.{CallsRight}
use Rattle.valid_copies.specs.Faults as work
use Rattle.cluster_core.proofs.RightTurns.{same_calls}
use Rattle.std.proofs.lemmas.Result.{on_err_weaker}
use Rattle.cluster_core.proofs.state.State.finish.Goals as goal

pub finish_attempt-requires-clause-can : goal.finish_attempt-requires-clause-can
finish_attempt-requires-clause-can g c =
    let works : CanWork (setup_in c.self.inside) (plain_in c.self.inside) = subst (λ (s : Seen). CanWork s.setup s.plain) (sym c.self.view_is) c.requires.works in
    can_finish (setup_in c.self.inside) (plain_in c.self.inside) c.take_out-attempt.result works (in_got c.self.inside.running.items c.args.at c.take_out-attempt.result c.take_out-attempt.ensures.taken)

pub returns-clause-stopped : goal.returns-clause-stopped
returns-clause-stopped g c =
    rw (sym c.self.view_is) (stopped_out (setup_in c.self.inside) (plain_in c.self.inside) c.take_out-attempt.new.running.items c.args.at c.take_out-attempt.result c.finish_attempt.result _ _ c.take_out-attempt.ensures.taken c.take_out-attempt.ensures.left c.finish_attempt.ensures.stopped)

pub finish_attempt-requires-clause-now : goal.finish_attempt-requires-clause-now
finish_attempt-requires-clause-now g c =
    let works : CanWork (setup_in c.self.inside) (plain_in c.self.inside) = subst (λ (s : Seen). CanWork s.setup s.plain) (sym c.self.view_is) c.requires.works in
    works.now c.take_out-attempt.result (in_got c.self.inside.running.items c.args.at c.take_out-attempt.result c.take_out-attempt.ensures.taken)

pub returns-clause-right : goal.returns-clause-right
returns-clause-right g c =
    rw (sym c.self.view_is) (on_ok_weaker c.finish_attempt.result (stays_out (g.F.Functions.meaning c.args.functions.now) (setup_in c.self.inside) (g.D.Disks.shows_damage c.args.disks.now) (kept_in c.self.inside) c.finish_attempt.new.self.kept c.take_out-attempt.new.running.items (g.D.Disks.told c.args.disks.now) (g.D.Disks.told c.finish_attempt.new.disks)) c.finish_attempt.ensures.right)

pub returns-clause-calls : goal.returns-clause-calls
returns-clause-calls g c =
    subst (λ (s : Seen). CallsRight g.D.Disks (g.F.Functions.meaning c.args.functions.now) s.setup s.kept c.args.disks.now c.finish_attempt.new.disks (IfErr c.finish_attempt.result (λ fault. work.AtMissed fault ⊥))) c.self.view_is
    (same_calls g.D.Disks (g.F.Functions.meaning c.args.functions.now) (setup_in c.self.inside) (kept_in c.self.inside) (record (kept_in c.self.inside) { running = c.take_out-attempt.new.running.items }) c.args.disks.now c.finish_attempt.new.disks _ refl refl refl c.finish_attempt.ensures.calls)

pub returns-clause-still : goal.returns-clause-still
returns-clause-still g c =
    rw (sym c.self.view_is) (on_missed_weaker c.finish_attempt.result (stays_out (g.F.Functions.meaning c.args.functions.now) (setup_in c.self.inside) (g.D.Disks.shows_damage c.args.disks.now) (kept_in c.self.inside) c.finish_attempt.new.self.kept c.take_out-attempt.new.running.items (g.D.Disks.told c.args.disks.now) (g.D.Disks.told c.finish_attempt.new.disks)) c.finish_attempt.ensures.still)

pub returns-clause-keeps : goal.returns-clause-keeps
returns-clause-keeps g c =
    rw (sym c.self.view_is) (on_err_weaker c.finish_attempt.result (stays_out (g.F.Functions.meaning c.args.functions.now) (setup_in c.self.inside) (g.D.Disks.shows_damage c.args.disks.now) (kept_in c.self.inside) c.finish_attempt.new.self.kept c.take_out-attempt.new.running.items (g.D.Disks.told c.args.disks.now) None) c.finish_attempt.ensures.keeps)
