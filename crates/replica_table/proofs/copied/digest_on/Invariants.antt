use Rattle.std.proofs.Common.{◌≡◌, drop}
use Rattle.replica_table.specs.steps.Entries.{found}
use Rattle.replica_table.proofs.copied.digest_on.Given as goal

abbrev pub invariant-copies : goal.invariant-copies
invariant-copies l = found l.node (drop l.copied-index l.copies) ≡ found l.node l.copies
