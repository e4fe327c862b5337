use Rattle.std.proofs.Common.{◌≡◌, ◌++◌}
use Rattle.plain_job.specs.Chain.{together}
use Rattle.task_outputs.proofs.testing.joined.Given as goal

abbrev pub invariant-parts : goal.invariant-parts
invariant-parts l = l.all ++ together l.rows-iterator.rest.items ≡ together l.fn.parts
