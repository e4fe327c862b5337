use Rattle.std.proofs.Common.{◌∙◌, sym, ap, subst}
use Rattle.std.proofs.lemmas.Result.{on_ok_weaker}
use Rattle.run_model.specs.Plans.{gives}
use Rattle.cluster_core.specs.Finishing.{CanFinish}
use Rattle.cluster_core.specs.States.{Seen}
use Rattle.cluster_core.proofs.Inside.{kept_in, setup_in}
use Rattle.cluster_core.proofs.NewValues.{value_commits}
use Rattle.cluster_core.proofs.state.State.commit_value.Goals as goal

pub returns-clause-committed : goal.returns-clause-committed
returns-clause-committed c =
    let can : CanFinish (setup_in c.self.inside) c.args.attempt.now = subst (λ (s : Seen). CanFinish s.setup c.args.attempt.now) (sym c.self.view_is) c.requires.can in
    rw (sym c.self.view_is) (on_ok_weaker c.note_commit.result (λ e. value_commits (setup_in c.self.inside) c.args.attempt.now c.args.counts (kept_in c.self.inside) c.args.part c.args.value c.requires.test.0 can c.requires.test.1 c.self.invariant.tests ∙ ap gives (sym e)) c.note_commit.ensures.noted)
