use Rattle.std.proofs.Common.{Option, Some, ap, subst, sym}
use Rattle.run_model.specs.Plans.{gives}
use Rattle.run_model.specs.Turns.{turn}
use Rattle.valid_copies.specs.Calls.{Follows}
use Rattle.cluster_core.specs.Clusters.{IsRightAfter, Progress}
use Rattle.cluster_core.specs.States.{Seen}
use Rattle.cluster_core.specs.Turns.{IsOfChain, decision_in, turned_to}
use Rattle.cluster_core.specs.declared.finished.Finished.{Finished}
use Rattle.cluster_core.proofs.Ended.{kept_refused, kept_turned}
use Rattle.cluster_core.specs.Works.{CallsRight, KeepsRight}
use Rattle.cluster_core.specs.Faults.{AtMissed}
use Rattle.cluster_core.proofs.RightTurns.{calls_so, memory_unmissed}
use Rattle.cluster_core.proofs.Keeping.{kept_ended, on_err}
use Rattle.cluster_core.proofs.cluster.Cluster.next_turn.Goals as goal

pub returns-in-Ok-Some-clause-turned : goal.returns-in-Ok-Some-clause-turned
returns-in-Ok-Some-clause-turned g c =
    let ended = subst (λ (p : Progress). Follows (turn p.state.setup (decision_in p.state) p.state.plain) (g.D.Disks.told c.args.disks.now) (g.D.Disks.told c.turn.new.disks) (gives (turned_to (Some c.in-Ok-Some.finished) c.turn.new.self.plain))) c.self.view_is (subst (λ (o : Option Finished). Follows (turn c.self.inside.state.setup (decision_in c.self.inside.state) c.self.inside.state.plain) (g.D.Disks.told c.args.disks.now) (g.D.Disks.told c.turn.new.disks) (gives (turned_to o c.turn.new.self.plain))) c.in-Ok-Some.field-0-is c.in-Ok-Some.ensures.turned) in
    kept_turned (turn c.args.self.now.state.setup (decision_in c.args.self.now.state) c.args.self.now.state.plain) (g.D.Disks.told c.args.disks.now) (g.D.Disks.told c.turn.new.disks) c.in-Ok-Some.finished c.turn.new.self.plain c.keep.new.self.state c.keep.result (ap (λ (s : Seen). s.plain) c.keep.ensures.state) c.keep.ensures.kept ended

pub returns-in-Ok-Some-clause-refused : goal.returns-in-Ok-Some-clause-refused
returns-in-Ok-Some-clause-refused g c =
    let ended = subst (λ (p : Progress). Follows (turn p.state.setup (decision_in p.state) p.state.plain) (g.D.Disks.told c.args.disks.now) (g.D.Disks.told c.turn.new.disks) (gives (turned_to (Some c.in-Ok-Some.finished) c.turn.new.self.plain))) c.self.view_is (subst (λ (o : Option Finished). Follows (turn c.self.inside.state.setup (decision_in c.self.inside.state) c.self.inside.state.plain) (g.D.Disks.told c.args.disks.now) (g.D.Disks.told c.turn.new.disks) (gives (turned_to o c.turn.new.self.plain))) c.in-Ok-Some.field-0-is c.in-Ok-Some.ensures.turned) in
    kept_refused (turn c.args.self.now.state.setup (decision_in c.args.self.now.state) c.args.self.now.state.plain) (g.D.Disks.told c.args.disks.now) (g.D.Disks.told c.turn.new.disks) c.in-Ok-Some.finished c.turn.new.self.plain c.keep.new.self.state.plain c.keep.result c.keep.ensures.memory ended

pub returns-in-Ok-Some-clause-calls : goal.returns-in-Ok-Some-clause-calls
returns-in-Ok-Some-clause-calls g c =
    let calls = subst (λ (p : Progress). CallsRight g.D.Disks (g.F.Functions.meaning c.args.functions.now) p.state.setup p.state.kept c.args.disks.now c.turn.new.disks (Unit {0})) c.self.view_is c.in-Ok-Some.ensures.calls in
    calls_so g.D.Disks (g.F.Functions.meaning c.args.functions.now) c.args.self.now.state.setup c.args.self.now.state.kept c.args.disks.now c.turn.new.disks _ _ (λ _. memory_unmissed c.keep.result c.keep.ensures.memory) calls

pub returns-in-Ok-None-clause-calls : goal.returns-in-Ok-None-clause-calls
returns-in-Ok-None-clause-calls g c =
    let calls = subst (λ (p : Progress). CallsRight g.D.Disks (g.F.Functions.meaning c.args.functions.now) p.state.setup p.state.kept c.args.disks.now c.turn.new.disks (Unit {0})) c.self.view_is c.in-Ok-None.ensures.calls in
    calls

pub returns-in-Err-clause-calls : goal.returns-in-Err-clause-calls
returns-in-Err-clause-calls g c =
    let calls = subst (λ (p : Progress). CallsRight g.D.Disks (g.F.Functions.meaning c.args.functions.now) p.state.setup p.state.kept c.args.disks.now c.turn.new.disks (AtMissed c.in-Err.fault ⊥)) c.self.view_is c.in-Err.ensures.calls in
    calls

pub returns-in-Ok-None-clause-chain : goal.returns-in-Ok-None-clause-chain
returns-in-Ok-None-clause-chain g c = subst (λ (p : Progress). IsOfChain p.state) c.self.view_is c.turn.ensures.chain

pub returns-in-Ok-Some-clause-chain : goal.returns-in-Ok-Some-clause-chain
returns-in-Ok-Some-clause-chain g c = subst (λ (p : Progress). IsOfChain p.state) c.self.view_is c.turn.ensures.chain

pub returns-in-Err-clause-chain : goal.returns-in-Err-clause-chain
returns-in-Err-clause-chain g c = subst (λ (p : Progress). IsOfChain p.state) c.self.view_is c.turn.ensures.chain

pub returns-in-Ok-Some-clause-keeps : goal.returns-in-Ok-Some-clause-keeps
returns-in-Ok-Some-clause-keeps g c =
    let m = g.F.Functions.meaning c.args.functions.now in
    let shows = g.D.Disks.shows_damage c.args.disks.now in
    let before = g.D.Disks.told c.args.disks.now in
    let after = g.D.Disks.told c.turn.new.disks in
    let right = subst (λ (p : Progress). IsRightAfter m p.state shows before after c.turn.new.self.kept (Some c.in-Ok-Some.finished)) c.self.view_is (subst (λ (o : Option Finished). IsRightAfter m c.self.inside.state shows before after c.turn.new.self.kept o) c.in-Ok-Some.field-0-is c.in-Ok-Some.ensures.right) in
    on_err c.keep.result (subst (λ (x : Seen). KeepsRight m c.args.self.now.state.setup shows before c.args.self.now.state.kept x.kept) (sym c.keep.ensures.state) (kept_ended m c.args.self.now.state shows before after c.turn.new.self.kept c.in-Ok-Some.finished right))
