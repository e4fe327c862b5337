use Rattle.std.proofs.Common.{◌≡◌, [], List, sym, subst, slice_get, OnOk, IfErr, Some}
use Rattle.run_model.specs.declared.attempt.Attempt.{Attempt}
use Rattle.run_model.specs.Acts.{finish}
use Rattle.run_model.specs.Plans.{gives}
use Rattle.valid_copies.specs.Calls.{Follows}
use Rattle.cluster_core.specs.Faults.{StoppedIn}
use Rattle.cluster_core.specs.Running.{IsOldest}
use Rattle.cluster_core.specs.States.{Seen}
use Rattle.cluster_core.proofs.Inside.{plain_in, setup_in}
use Rattle.cluster_core.proofs.Happening.{oldest_done, oldest_last, oldest_stopped}
use Rattle.cluster_core.proofs.state.State.last_done.Goals as goal

pub returns-clause-acted : goal.returns-clause-acted
returns-clause-acted g c =
    let old : IsOldest c.self.inside.running.items c.in-Some.at = subst (λ (running : List Attempt). IsOldest running c.in-Some.at) c.deref.ensures.value c.in-Some.ensures in
    let spent = subst (λ (s : Seen). s.plain.events ≡ []) (sym c.self.view_is) c.requires.spent in
    let acted = subst (λ (s : Seen). OnOk c.finish.result ((a : Attempt) → slice_get s.kept.running c.in-Some.at ≡ Some a → Follows (finish s.setup a s.plain) (g.D.Disks.told c.args.disks.now) (g.D.Disks.told c.finish.new.disks) (gives c.finish.new.self.plain))) (sym c.self.view_is) c.finish.ensures.acted in
    rw (sym c.self.view_is) (oldest_done (setup_in c.self.inside) (plain_in c.self.inside) c.finish.new.self.plain c.in-Some.at c.finish.result (g.D.Disks.told c.args.disks.now) (g.D.Disks.told c.finish.new.disks) old (oldest_last (setup_in c.self.inside) (plain_in c.self.inside) c.in-Some.at old spent) acted)

pub returns-clause-stopped : goal.returns-clause-stopped
returns-clause-stopped g c =
    let old : IsOldest c.self.inside.running.items c.in-Some.at = subst (λ (running : List Attempt). IsOldest running c.in-Some.at) c.deref.ensures.value c.in-Some.ensures in
    let spent = subst (λ (s : Seen). s.plain.events ≡ []) (sym c.self.view_is) c.requires.spent in
    let stopped = subst (λ (s : Seen). IfErr c.finish.result (λ fault. (a : Attempt) → slice_get s.kept.running c.in-Some.at ≡ Some a → StoppedIn (finish s.setup a s.plain) (g.D.Disks.told c.args.disks.now) (g.D.Disks.told c.finish.new.disks) fault)) (sym c.self.view_is) c.finish.ensures.stopped in
    rw (sym c.self.view_is) (oldest_stopped (setup_in c.self.inside) (plain_in c.self.inside) c.finish.new.self.plain c.in-Some.at c.finish.result (g.D.Disks.told c.args.disks.now) (g.D.Disks.told c.finish.new.disks) old (oldest_last (setup_in c.self.inside) (plain_in c.self.inside) c.in-Some.at old spent) stopped)
