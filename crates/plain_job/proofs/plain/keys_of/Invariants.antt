use Rattle.std.proofs.Common.{◌≡◌, ◌++◌, map, drop}
use Rattle.std.specs.List.{flat_map}
use Rattle.plain_job.specs.Job.{key_of}
use Rattle.plain_job.proofs.plain.keys_of.Given as goal

abbrev pub invariant-streams : goal.invariant-streams
invariant-streams l = l.all ++ flat_map (map key_of) (drop l.rows-index l.rows-items) ≡ flat_map (map key_of) l.rows-items
