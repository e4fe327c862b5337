use Rattle.std.proofs.Common.{sym, ap, subst, ◌∙◌}
use Rattle.std.specs.List.{list_all}
use Rattle.run_model.specs.Advance.{is_decided}
use Rattle.cluster_core.specs.States.{Seen, is_known}
use Rattle.cluster_core.proofs.Decided.{decided_by}
use Rattle.cluster_core.specs.Turns.{IsOfChain}
use Rattle.cluster_core.proofs.Inside.{kept_in, setup_in}
use Rattle.cluster_core.proofs.Rightness.{of_chain}
use Rattle.cluster_core.proofs.state.State.is_decided.Goals as goal

pub returns-else-self-lt2-clause-decided : goal.returns-else-self-lt2-clause-decided
returns-else-self-lt2-clause-decided c =
    c.all_known.ensures
    ∙ ap (list_all is_known) c.deref.ensures.value
    ∙ decided_by (setup_in c.self.inside) (kept_in c.self.inside) c.self.invariant.tests (sym c.parts_are_up.ensures ∙ c.if-parts_are_up.true) c.if-self-lt2.false
    ∙ ap (λ (s : Seen). is_decided s.setup s.plain) c.self.view_is

pub returns-else-self-lt2-clause-chain : goal.returns-else-self-lt2-clause-chain
returns-else-self-lt2-clause-chain c = subst (λ (s : Seen). IsOfChain s) c.self.view_is (of_chain (setup_in c.self.inside) (kept_in c.self.inside) c.self.invariant.tests)
