use Rattle.memory_run.proofs.Splits.{Dealt}
use Rattle.memory_run.proofs.sources.spill_parts.Given as goal

abbrev pub invariant-parts : goal.invariant-parts
invariant-parts g l = Dealt (g.F.Functions.meaning l.functions) l.context.round l.step 1 l.context.shape.now.parts l.builder l.rows-iterator.rest.items l.fn.before
