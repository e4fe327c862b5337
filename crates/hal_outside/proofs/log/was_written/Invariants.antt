use Rattle.std.proofs.Common.{drop}
use Rattle.hal_outside.specs.steps.DiskLogs.{WasWritten, steps_of}
use Rattle.hal_outside.proofs.log.was_written.Given as goal

-- if the file was written at all, then by one of the entries that are left
abbrev pub invariant-entries : goal.invariant-entries
invariant-entries l = (WasWritten l.node l.name (steps_of (drop l.at l.entries.items)) → WasWritten l.node l.name (steps_of l.entries.items)) × (WasWritten l.node l.name (steps_of l.entries.items) → WasWritten l.node l.name (steps_of (drop l.at l.entries.items)))
