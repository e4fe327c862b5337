use Rattle.std.proofs.Common.{◌≡◌, ◌++◌, map, drop}
use Rattle.plain_job.specs.Job.{group}
use Rattle.plain_job.proofs.plain.groups_of.Given as goal

abbrev pub invariant-streams : goal.invariant-streams
invariant-streams l = l.groups ++ map (λ rows. group rows l.key) (drop l.rows-index l.rows-items) ≡ map (λ rows. group rows l.key) l.rows-items
