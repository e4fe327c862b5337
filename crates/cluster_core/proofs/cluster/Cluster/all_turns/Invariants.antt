use Rattle.run_laws.specs.Measures.{measure}
use Rattle.cluster_core.proofs.ManyTurns.{SoFar}
use Rattle.cluster_core.proofs.cluster.Cluster.all_turns.Given as goal

abbrev pub invariant-turns : goal.invariant-turns
invariant-turns g l = SoFar g.D.Disks (g.F.Functions.meaning l.fn.functions) l.fn.self l.self l.fn.disks l.disks

-- each turn that acts lets the measure of the run fall
abbrev pub decreases-turns : goal.decreases-turns
decreases-turns g l = measure l.fn.self.state.setup l.self.state.plain
