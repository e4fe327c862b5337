use Rattle.std.proofs.Common.{◌-◌}
use Rattle.memory_run.proofs.Rounds.{Came}
use Rattle.memory_run.proofs.chain.chain_in_memory.Given as goal

abbrev pub invariant-rounds : goal.invariant-rounds
invariant-rounds g l = Came (g.F.Functions.meaning l.functions) l.shape l.fn.tables l.round l.next l.parts

abbrev pub decreases-rounds : goal.decreases-rounds
decreases-rounds g l = l.shape.rounds - l.round
