use Rattle.std.proofs.Common.{◌≡◌, ◌∷◌, ◌+◌, List, drop, sym, subst, slice_get, OnOk, IfErr, Some}
use Rattle.schedule_text.specs.declared.schedule.Event.TheVariants as event
use Rattle.run_model.specs.declared.attempt.Attempt.{Attempt}
use Rattle.run_model.specs.Acts.{finish}
use Rattle.run_model.specs.Plans.{gives}
use Rattle.valid_copies.specs.Calls.{Follows}
use Rattle.cluster_core.specs.Faults.{StoppedIn}
use Rattle.cluster_core.specs.Running.{IsOldest}
use Rattle.cluster_core.specs.States.{Seen}
use Rattle.cluster_core.proofs.Rightness.{same_right}
use Rattle.cluster_core.specs.Works.{KeepsRight, StaysRight}
use Rattle.cluster_core.proofs.Inside.{kept_in, plain_in, setup_in}
use Rattle.cluster_core.proofs.Happening.{oldest_done, oldest_stopped, oldest_waits}
use Rattle.cluster_core.proofs.RightTurns.{no_calls}
use Rattle.cluster_core.proofs.Keeping.{keeps_same, on_err}
use Rattle.cluster_core.proofs.state.State.wait_for.Goals as goal

pub returns-in-Some-clause-acted : goal.returns-in-Some-clause-acted
returns-in-Some-clause-acted g c =
    let old : IsOldest c.self.inside.running.items c.in-Some.at = subst (λ (running : List Attempt). IsOldest running c.in-Some.at) c.deref.ensures.value c.in-Some.ensures in
    let next = subst (λ (s : Seen). s.plain.events ≡ event.Round c.args.round ∷ drop (s.kept.spent + 1) s.setup.schedule.events) (sym c.self.view_is) c.requires.next in
    let acted = subst (λ (s : Seen). OnOk c.finish.result ((a : Attempt) → slice_get s.kept.running c.in-Some.at ≡ Some a → Follows (finish s.setup a s.plain) (g.D.Disks.told c.args.disks.now) (g.D.Disks.told c.finish.new.disks) (gives c.finish.new.self.plain))) (sym c.self.view_is) c.finish.ensures.acted in
    rw (sym c.self.view_is) (oldest_done (setup_in c.self.inside) (plain_in c.self.inside) c.finish.new.self.plain c.in-Some.at c.finish.result (g.D.Disks.told c.args.disks.now) (g.D.Disks.told c.finish.new.disks) old (oldest_waits (setup_in c.self.inside) (plain_in c.self.inside) c.args.round (drop (c.self.inside.spent + 1) c.self.inside.schedule.events) c.in-Some.at old next c.if-self-round.true) acted)

pub returns-in-Some-clause-stopped : goal.returns-in-Some-clause-stopped
returns-in-Some-clause-stopped g c =
    let old : IsOldest c.self.inside.running.items c.in-Some.at = subst (λ (running : List Attempt). IsOldest running c.in-Some.at) c.deref.ensures.value c.in-Some.ensures in
    let next = subst (λ (s : Seen). s.plain.events ≡ event.Round c.args.round ∷ drop (s.kept.spent + 1) s.setup.schedule.events) (sym c.self.view_is) c.requires.next in
    let stopped = subst (λ (s : Seen). IfErr c.finish.result (λ fault. (a : Attempt) → slice_get s.kept.running c.in-Some.at ≡ Some a → StoppedIn (finish s.setup a s.plain) (g.D.Disks.told c.args.disks.now) (g.D.Disks.told c.finish.new.disks) fault)) (sym c.self.view_is) c.finish.ensures.stopped in
    rw (sym c.self.view_is) (oldest_stopped (setup_in c.self.inside) (plain_in c.self.inside) c.finish.new.self.plain c.in-Some.at c.finish.result (g.D.Disks.told c.args.disks.now) (g.D.Disks.told c.finish.new.disks) old (oldest_waits (setup_in c.self.inside) (plain_in c.self.inside) c.args.round (drop (c.self.inside.spent + 1) c.self.inside.schedule.events) c.in-Some.at old next c.if-self-round.true) stopped)

pub returns-in_ok-skip-in_default-clause-right : goal.returns-in_ok-skip-in_default-clause-right
returns-in_ok-skip-in_default-clause-right g c =
    subst (λ (s : Seen). StaysRight (g.F.Functions.meaning c.args.functions.now) s.setup (g.D.Disks.shows_damage c.args.disks.now) (g.D.Disks.told c.args.disks.now) (g.D.Disks.told c.args.disks.now) s.kept c.skip.new.self.kept) c.self.view_is (same_right (g.F.Functions.meaning c.args.functions.now) (setup_in c.self.inside) (g.D.Disks.shows_damage c.args.disks.now) (g.D.Disks.told c.args.disks.now) (kept_in c.self.inside) c.skip.new.self.kept c.in_ok-skip-in_default.ensures.table c.in_ok-skip-in_default.ensures.values c.in_ok-skip-in_default.ensures.round)

pub returns-in_ok-skip-in_default-clause-calls : goal.returns-in_ok-skip-in_default-clause-calls
returns-in_ok-skip-in_default-clause-calls g c = no_calls g.D.Disks (g.F.Functions.meaning c.args.functions.now) c.args.self.now.setup c.args.self.now.kept c.args.disks.now (Unit {0}) tt

pub returns-in_err-skip-in_default-clause-keeps : goal.returns-in_err-skip-in_default-clause-keeps
returns-in_err-skip-in_default-clause-keeps g c =
    let m = g.F.Functions.meaning c.args.functions.now in
    let shows = g.D.Disks.shows_damage c.args.disks.now in
    let before = g.D.Disks.told c.args.disks.now in
    on_err c.from_residual.result
    (subst (λ (s : Seen). KeepsRight m s.setup shows before s.kept c.skip.new.self.kept) c.self.view_is (keeps_same m (setup_in c.self.inside) shows before (kept_in c.self.inside) c.skip.new.self.kept c.skip.ensures.table c.skip.ensures.values c.skip.ensures.round))
