use Rattle.std.proofs.Common.{◌≡◌, ◌-◌, length, drop}
use Rattle.hal_outside.specs.DiskFiles.{file_at}
use Rattle.hal_outside.specs.DiskSteps.{now_after}
use Rattle.hal_outside.specs.steps.DiskLogs.{steps_of}
use Rattle.hal_outside.proofs.log.find.Given as goal

abbrev pub invariant-entries : goal.invariant-entries
invariant-entries l = file_at (now_after (steps_of (drop l.at l.entries.items))) l.node l.name ≡ file_at (now_after (steps_of l.entries.items)) l.node l.name

abbrev pub decreases-entries : goal.decreases-entries
decreases-entries l = length l.entries.items - l.at
