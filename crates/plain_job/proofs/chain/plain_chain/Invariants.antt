use Rattle.std.proofs.Common.{◌-◌}
use Rattle.plain_job.proofs.Rounds.{Begins}
use Rattle.plain_job.proofs.chain.plain_chain.Given as goal

abbrev pub invariant-rounds : goal.invariant-rounds
invariant-rounds g l = Begins (g.F.Functions.meaning l.functions) l.shape l.tables l.round l.state

abbrev pub decreases-rounds : goal.decreases-rounds
decreases-rounds g l = l.shape.rounds - l.round
