use Rattle.std.proofs.Common.{drop}
use Rattle.memory_run.proofs.Splits.{Dealt}
use Rattle.memory_run.proofs.sources.spill_splits.Given as goal

abbrev pub invariant-splits : goal.invariant-splits
invariant-splits g l = Dealt (g.F.Functions.meaning l.functions) l.context.round l.step l.source l.context.shape.now.parts l.builder (drop l.rows-index l.splits) l.splits
