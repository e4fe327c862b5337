use Rattle.cluster_core.proofs.Starts.{SoFar}
use Rattle.cluster_core.proofs.state.State.start.Given as goal

abbrev pub invariant-slots : goal.invariant-slots
invariant-slots l = SoFar l.fn.self l.self l._slot l._slot-end
