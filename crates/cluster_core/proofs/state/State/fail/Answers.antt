use Rattle.std.proofs.Common.{sym, subst, arith}
use Rattle.cluster_core.specs.States.{Seen}
use Rattle.cluster_core.specs.Works.{CanWork}
use Rattle.cluster_core.proofs.Inside.{plain_in, setup_in}
use Rattle.cluster_core.proofs.state.State.fail.Goals as goal

pub count_failure-requires : goal.count_failure-requires
count_failure-requires c =
    let works : CanWork (setup_in c.self.inside) (plain_in c.self.inside) = subst (λ (s : Seen). CanWork s.setup s.plain) (sym c.self.view_is) c.requires.works in
    record { few = omega (arith, works.failures c.take_out-task.result.task, c.self.invariant.limits.attempts) }
