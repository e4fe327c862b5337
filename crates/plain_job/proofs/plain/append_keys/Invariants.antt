use Rattle.std.proofs.Common.{◌≡◌, ◌++◌, map, drop}
use Rattle.plain_job.specs.Job.{key_of}
use Rattle.plain_job.proofs.plain.append_keys.Given as goal

abbrev pub invariant-rows : goal.invariant-rows
invariant-rows l = l.out ++ map key_of (drop l.row-index l.row-items) ≡ l.initial.out ++ map key_of l.row-items
