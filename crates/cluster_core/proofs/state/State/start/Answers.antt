use Rattle.std.proofs.Common.{sym, subst, ◌∙◌}
use Rattle.run_laws.specs.States.{Fits}
use Rattle.cluster_core.specs.States.{Seen}
use Rattle.cluster_core.proofs.Ready.{fits_of}
use Rattle.cluster_core.proofs.Starts.{none_left, one_more}
use Rattle.cluster_core.proofs.state.State.start.Goals as goal

pub returns-in-None-clause-started : goal.returns-in-None-clause-started
returns-in-None-clause-started c = none_left c.args.self.now c.slots.self c.slots._slot _ c.slots.invariant c.in-None.ensures

pub slots-preserved : goal.slots-preserved
slots-preserved c =
    let fits : Fits c.slots.self.setup = subst Fits (sym c.slots.invariant.setup) (subst (λ (s : Seen). Fits s.setup) c.self.view_is (fits_of c.self.inside.shape c.self.inside.schedule c.self.invariant.counted c.self.invariant.limits)) in
    one_more c.args.self.now c.slots.self c.begin.new.self c.slots._slot _ fits c.slots.invariant c.slots-test.true (c.in-Some.ensures ∙ sym c.in_ok-begin-in-Some.ensures.started) c.in_ok-begin-in-Some.ensures.same c.in_ok-begin-in-Some.ensures.table c.in_ok-begin-in-Some.ensures.values c.in_ok-begin-in-Some.ensures.round c.in_ok-begin-in-Some.ensures.failures
