use Rattle.std.proofs.Common.{◌≡◌, ◌++◌, map, take, drop}
use Rattle.hal_outside.specs.steps.DiskLogs.{settled_entry}
use Rattle.hal_outside.proofs.log.settle.Given as goal

abbrev pub invariant-entries : goal.invariant-entries
invariant-entries l = l.entries.items ≡ map settled_entry (take l.at l.fn.entries.items) ++ drop l.at l.fn.entries.items
