use Rattle.std.proofs.Common.{◌<◌, List, None, sym, subst}
use Rattle.node_names.specs.declared.task.Task.{Task}
use Rattle.run_model.specs.Acts.{failures_of}
use Rattle.run_model.specs.State.{Setup}
use Rattle.run_model.specs.declared.attempt.Failed.{Failed}
use Rattle.cluster_core.specs.Works.{StaysRight}
use Rattle.cluster_core.proofs.Refused.{refusal_weaker}
use Rattle.cluster_core.proofs.Rightness.{then_right}
use Rattle.cluster_core.proofs.Going.{can_work}
use Rattle.cluster_core.specs.Works.{CallsRight}
use Rattle.cluster_core.specs.Faults.{AtMissed}
use Rattle.cluster_core.proofs.RightTurns.{no_calls, same_calls}
use Rattle.cluster_core.proofs.state.State.go_on.Goals as goal

pub act-requires-clause-works : goal.act-requires-clause-works
act-requires-clause-works g c =
    let few = subst (λ (setup : Setup). (task : Task) → failures_of task c.start.new.self.plain.failures < setup.schedule.attempts) (sym c.in-Ok.ensures.same) (subst (λ (failures : List Failed). (task : Task) → failures_of task failures < c.args.self.now.setup.schedule.attempts) (sym c.in-Ok.ensures.failures) c.requires.few) in
    can_work c.start.new.self.setup c.start.new.self.plain (c.in-Ok.ensures.orderly).0 few

pub returns-in-Ok-act-clause-right : goal.returns-in-Ok-act-clause-right
returns-in-Ok-act-clause-right g c =
    let right = subst (λ (setup : Setup). StaysRight (g.F.Functions.meaning c.args.functions.now) setup (g.D.Disks.shows_damage c.args.disks.now) (g.D.Disks.told c.args.disks.now) (g.D.Disks.told c.act.new.disks) c.start.new.self.kept c.act.new.self.kept) c.in-Ok.ensures.same c.in-Ok-act.ensures.right in
    then_right (g.F.Functions.meaning c.args.functions.now) c.args.self.now.setup (g.D.Disks.shows_damage c.args.disks.now) (g.D.Disks.told c.args.disks.now) (g.D.Disks.told c.act.new.disks) c.args.self.now.kept c.start.new.self.kept c.act.new.self.kept c.in-Ok.ensures.table c.in-Ok.ensures.values c.in-Ok.ensures.round right

pub returns-in-Ok-act-clause-calls : goal.returns-in-Ok-act-clause-calls
returns-in-Ok-act-clause-calls g c =
    let calls = subst (λ (setup : Setup). CallsRight g.D.Disks (g.F.Functions.meaning c.args.functions.now) setup c.start.new.self.kept c.args.disks.now c.act.new.disks (Unit {0})) c.in-Ok.ensures.same c.in-Ok-act.ensures.calls in
    same_calls g.D.Disks (g.F.Functions.meaning c.args.functions.now) c.args.self.now.setup c.args.self.now.kept c.start.new.self.kept c.args.disks.now c.act.new.disks _ c.in-Ok.ensures.table c.in-Ok.ensures.values c.in-Ok.ensures.round calls

pub returns-in-Err-act-clause-calls : goal.returns-in-Err-act-clause-calls
returns-in-Err-act-clause-calls g c =
    let calls = subst (λ (setup : Setup). CallsRight g.D.Disks (g.F.Functions.meaning c.args.functions.now) setup c.start.new.self.kept c.args.disks.now c.act.new.disks (AtMissed c.in-Err-act.fault ⊥)) c.in-Ok.ensures.same c.in-Err-act.ensures.calls in
    same_calls g.D.Disks (g.F.Functions.meaning c.args.functions.now) c.args.self.now.setup c.args.self.now.kept c.start.new.self.kept c.args.disks.now c.act.new.disks _ c.in-Ok.ensures.table c.in-Ok.ensures.values c.in-Ok.ensures.round calls

pub returns-in-Err-clause-calls : goal.returns-in-Err-clause-calls
returns-in-Err-clause-calls g c = no_calls g.D.Disks (g.F.Functions.meaning c.args.functions.now) c.args.self.now.setup c.args.self.now.kept c.args.disks.now (Unit {0}) tt

pub returns-in-Err-act-clause-still : goal.returns-in-Err-act-clause-still
returns-in-Err-act-clause-still g c =
    let m = g.F.Functions.meaning c.args.functions.now in
    let shows = g.D.Disks.shows_damage c.args.disks.now in
    let before = g.D.Disks.told c.args.disks.now in
    let after = g.D.Disks.told c.act.new.disks in
    refusal_weaker c.in-Err-act.fault
    (λ right. then_right m c.args.self.now.setup shows before after c.args.self.now.kept c.start.new.self.kept c.act.new.self.kept c.in-Ok.ensures.table c.in-Ok.ensures.values c.in-Ok.ensures.round
    (subst (λ (setup : Setup). StaysRight m setup shows before after c.start.new.self.kept c.act.new.self.kept) c.in-Ok.ensures.same right))
    c.in-Err-act.ensures.still

pub returns-in-Err-act-clause-keeps : goal.returns-in-Err-act-clause-keeps
returns-in-Err-act-clause-keeps g c =
    let m = g.F.Functions.meaning c.args.functions.now in
    let shows = g.D.Disks.shows_damage c.args.disks.now in
    let before = g.D.Disks.told c.args.disks.now in
    then_right m c.args.self.now.setup shows before None c.args.self.now.kept c.start.new.self.kept c.act.new.self.kept c.in-Ok.ensures.table c.in-Ok.ensures.values c.in-Ok.ensures.round
    (subst (λ (setup : Setup). StaysRight m setup shows before None c.start.new.self.kept c.act.new.self.kept) c.in-Ok.ensures.same c.in-Err-act.ensures.keeps)
