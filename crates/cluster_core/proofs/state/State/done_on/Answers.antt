use Rattle.std.proofs.Common.{◌≡◌, ◌∷◌, ◌+◌, ◌==◌, List, drop, false, refl, sym, subst, IfErr, None, OnErr, OnOk}
use Rattle.std.specs.List.{list_any}
use Rattle.schedule_text.specs.declared.schedule.Event.TheVariants as event
use Rattle.run_model.specs.declared.attempt.Attempt.{Attempt}
use Rattle.cluster_core.specs.Running.{IsFirst}
use Rattle.cluster_core.specs.States.{Seen}
use Rattle.std.proofs.lemmas.Result.{on_ok_weaker}
use Rattle.valid_copies.specs.Faults as work
use Rattle.cluster_core.proofs.Refused.{on_missed_weaker}
use Rattle.cluster_core.proofs.Rightness.{same_right, then_right}
use Rattle.cluster_core.specs.Works.{CanWork, KeepsRight, StaysRight}
use Rattle.cluster_core.proofs.Happening.{can_later, done_first, done_none, done_stopped}
use Rattle.cluster_core.proofs.Inside.{kept_in, plain_in, setup_in}
use Rattle.std.proofs.Common.{IfErr}
use Rattle.cluster_core.specs.Works.{CallsRight}
use Rattle.valid_copies.specs.Faults as work
use Rattle.cluster_core.proofs.RightTurns.{no_calls, same_calls}
use Rattle.std.proofs.lemmas.Result.{on_err_weaker}
use Rattle.cluster_core.proofs.Keeping.{keeps_same, on_err}
use Rattle.cluster_core.proofs.state.State.done_on.Goals as goal

pub finish-requires-clause-works : goal.finish-requires-clause-works
finish-requires-clause-works g c = can_later (setup_in c.self.inside) (plain_in c.self.inside) (drop (c.self.inside.spent + 1) c.self.inside.schedule.events) (subst (λ (s : Seen). CanWork s.setup s.plain) (sym c.self.view_is) c.requires.works)

pub returns-in-Some-clause-acted : goal.returns-in-Some-clause-acted
returns-in-Some-clause-acted g c =
    let first : IsFirst (λ (a : Attempt). c.args.node == a.node) c.self.inside.running.items c.in-Some.at = subst (λ (running : List Attempt). IsFirst (λ (a : Attempt). c.args.node == a.node) running c.in-Some.at) c.deref.ensures.value c.in-Some.ensures in
    let next = subst (λ (s : Seen). s.plain.events ≡ event.Done c.args.node ∷ drop (s.kept.spent + 1) s.setup.schedule.events) (sym c.self.view_is) c.requires.next in
    rw (sym c.self.view_is) (done_first (setup_in c.self.inside) (plain_in c.self.inside) c.finish.new.self.plain c.args.node (drop (c.self.inside.spent + 1) c.self.inside.schedule.events) c.in-Some.at c.finish.result (g.D.Disks.told c.args.disks.now) (g.D.Disks.told c.finish.new.disks) next first c.finish.ensures.acted)

pub returns-in-Some-clause-stopped : goal.returns-in-Some-clause-stopped
returns-in-Some-clause-stopped g c =
    let first : IsFirst (λ (a : Attempt). c.args.node == a.node) c.self.inside.running.items c.in-Some.at = subst (λ (running : List Attempt). IsFirst (λ (a : Attempt). c.args.node == a.node) running c.in-Some.at) c.deref.ensures.value c.in-Some.ensures in
    let next = subst (λ (s : Seen). s.plain.events ≡ event.Done c.args.node ∷ drop (s.kept.spent + 1) s.setup.schedule.events) (sym c.self.view_is) c.requires.next in
    rw (sym c.self.view_is) (done_stopped (setup_in c.self.inside) (plain_in c.self.inside) c.args.node (drop (c.self.inside.spent + 1) c.self.inside.schedule.events) c.in-Some.at c.finish.result (g.D.Disks.told c.args.disks.now) (g.D.Disks.told c.finish.new.disks) next first c.finish.ensures.stopped)

pub returns-in_ok-skip-in-None-clause-acted : goal.returns-in_ok-skip-in-None-clause-acted
returns-in_ok-skip-in-None-clause-acted g c =
    let none = subst (λ (running : List Attempt). list_any (λ (a : Attempt). c.args.node == a.node) running ≡ false) c.deref.ensures.value c.in-None.ensures in
    let next = subst (λ (s : Seen). s.plain.events ≡ event.Done c.args.node ∷ drop (s.kept.spent + 1) s.setup.schedule.events) (sym c.self.view_is) c.requires.next in
    rw (sym c.self.view_is) (done_none (setup_in c.self.inside) (plain_in c.self.inside) c.skip.new.self.plain c.args.node (drop (c.self.inside.spent + 1) c.self.inside.schedule.events) (g.D.Disks.told c.args.disks.now) next none c.in_ok-skip-in-None.ensures.noted)

pub returns-in-Some-clause-right : goal.returns-in-Some-clause-right
returns-in-Some-clause-right g c =
    subst (λ (s : Seen). OnOk c.finish.result (StaysRight (g.F.Functions.meaning c.args.functions.now) s.setup (g.D.Disks.shows_damage c.args.disks.now) (g.D.Disks.told c.args.disks.now) (g.D.Disks.told c.finish.new.disks) s.kept c.finish.new.self.kept)) c.self.view_is
    (on_ok_weaker c.finish.result (λ r. then_right (g.F.Functions.meaning c.args.functions.now) (setup_in c.self.inside) (g.D.Disks.shows_damage c.args.disks.now) (g.D.Disks.told c.args.disks.now) (g.D.Disks.told c.finish.new.disks) (kept_in c.self.inside) (record (kept_in c.self.inside) { spent = c.self.inside.spent + 1 }) c.finish.new.self.kept refl refl refl r) c.finish.ensures.right)

pub returns-in_ok-skip-in-None-clause-right : goal.returns-in_ok-skip-in-None-clause-right
returns-in_ok-skip-in-None-clause-right g c =
    subst (λ (s : Seen). StaysRight (g.F.Functions.meaning c.args.functions.now) s.setup (g.D.Disks.shows_damage c.args.disks.now) (g.D.Disks.told c.args.disks.now) (g.D.Disks.told c.args.disks.now) s.kept c.skip.new.self.kept) c.self.view_is (same_right (g.F.Functions.meaning c.args.functions.now) (setup_in c.self.inside) (g.D.Disks.shows_damage c.args.disks.now) (g.D.Disks.told c.args.disks.now) (kept_in c.self.inside) c.skip.new.self.kept c.in_ok-skip-in-None.ensures.table c.in_ok-skip-in-None.ensures.values c.in_ok-skip-in-None.ensures.round)

pub returns-in-Some-clause-calls : goal.returns-in-Some-clause-calls
returns-in-Some-clause-calls g c =
    subst (λ (s : Seen). CallsRight g.D.Disks (g.F.Functions.meaning c.args.functions.now) s.setup s.kept c.args.disks.now c.finish.new.disks (IfErr c.finish.result (λ fault. work.AtMissed fault ⊥))) c.self.view_is
    (same_calls g.D.Disks (g.F.Functions.meaning c.args.functions.now) (setup_in c.self.inside) (kept_in c.self.inside) (record (kept_in c.self.inside) { spent = c.self.inside.spent + 1 }) c.args.disks.now c.finish.new.disks _ refl refl refl c.finish.ensures.calls)

pub returns-in_ok-skip-in-None-clause-calls : goal.returns-in_ok-skip-in-None-clause-calls
returns-in_ok-skip-in-None-clause-calls g c = no_calls g.D.Disks (g.F.Functions.meaning c.args.functions.now) c.args.self.now.setup c.args.self.now.kept c.args.disks.now (Unit {0}) tt

pub returns-in-Some-clause-still : goal.returns-in-Some-clause-still
returns-in-Some-clause-still g c =
    subst (λ (s : Seen). IfErr c.finish.result (λ fault. work.AtMissed fault (StaysRight (g.F.Functions.meaning c.args.functions.now) s.setup (g.D.Disks.shows_damage c.args.disks.now) (g.D.Disks.told c.args.disks.now) (g.D.Disks.told c.finish.new.disks) s.kept c.finish.new.self.kept))) c.self.view_is
    (on_missed_weaker c.finish.result (λ r. then_right (g.F.Functions.meaning c.args.functions.now) (setup_in c.self.inside) (g.D.Disks.shows_damage c.args.disks.now) (g.D.Disks.told c.args.disks.now) (g.D.Disks.told c.finish.new.disks) (kept_in c.self.inside) (record (kept_in c.self.inside) { spent = c.self.inside.spent + 1 }) c.finish.new.self.kept refl refl refl r) c.finish.ensures.still)

pub returns-in-Some-clause-keeps : goal.returns-in-Some-clause-keeps
returns-in-Some-clause-keeps g c =
    subst (λ (s : Seen). OnErr c.finish.result (StaysRight (g.F.Functions.meaning c.args.functions.now) s.setup (g.D.Disks.shows_damage c.args.disks.now) (g.D.Disks.told c.args.disks.now) None s.kept c.finish.new.self.kept)) c.self.view_is
    (on_err_weaker c.finish.result (λ r. then_right (g.F.Functions.meaning c.args.functions.now) (setup_in c.self.inside) (g.D.Disks.shows_damage c.args.disks.now) (g.D.Disks.told c.args.disks.now) None (kept_in c.self.inside) (record (kept_in c.self.inside) { spent = c.self.inside.spent + 1 }) c.finish.new.self.kept refl refl refl r) c.finish.ensures.keeps)

pub returns-in_err-skip-in-None-clause-keeps : goal.returns-in_err-skip-in-None-clause-keeps
returns-in_err-skip-in-None-clause-keeps g c =
    let m = g.F.Functions.meaning c.args.functions.now in
    let shows = g.D.Disks.shows_damage c.args.disks.now in
    let before = g.D.Disks.told c.args.disks.now in
    on_err c.from_residual.result
    (subst (λ (s : Seen). KeepsRight m s.setup shows before s.kept c.skip.new.self.kept) c.self.view_is (keeps_same m (setup_in c.self.inside) shows before (kept_in c.self.inside) c.skip.new.self.kept c.skip.ensures.table c.skip.ensures.values c.skip.ensures.round))
