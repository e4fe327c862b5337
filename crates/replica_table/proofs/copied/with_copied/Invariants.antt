use Rattle.std.proofs.Common.{◌≡◌, ◌++◌, length}
use Rattle.replica_table.specs.steps.Entries.{placed}
use Rattle.replica_table.proofs.copied.with_copied.Given as goal

abbrev pub invariant-lower : goal.invariant-lower
invariant-lower l = l.list.items ++ placed l.new l.rest ≡ placed l.new l.fn.copies

abbrev pub decreases-lower : goal.decreases-lower
decreases-lower l = length l.rest
