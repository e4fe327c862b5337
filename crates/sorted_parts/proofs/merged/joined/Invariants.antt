use Rattle.std.proofs.Common.{◌≡◌, ◌++◌}
use Rattle.plain_job.specs.Chain.{together}
use Rattle.sorted_parts.proofs.merged.joined.Given as goal

abbrev pub invariant-sections : goal.invariant-sections
invariant-sections l = l.all ++ together l.rows-iterator.rest.items ≡ together l.fn.sections
