use Rattle.std.proofs.Common.{◌≡◌, ◌≤◌, drop, length}
use Rattle.plain_job.specs.Job.{group}
use Rattle.plain_job.proofs.plain.group_of.Given as goal

abbrev pub invariant-rows : goal.invariant-rows
invariant-rows l = record {
  within : l.at ≤ length l.all;
  found : l.found.items ≡ group (drop l.at l.all) l.key;
}

abbrev pub decreases-rows : goal.decreases-rows
decreases-rows l = l.at
