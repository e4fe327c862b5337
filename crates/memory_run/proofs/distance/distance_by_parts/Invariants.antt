use Rattle.std.proofs.Common.{◌≡◌, ◌++◌, length}
use Rattle.plain_job.specs.Distances.{part_distances}
use Rattle.memory_run.proofs.distance.distance_by_parts.Given as goal

abbrev pub invariant-parts : goal.invariant-parts
invariant-parts g l = let far = (g.F.Functions.meaning l.functions).distance in l.distances.items ++ part_distances far l.olds l.news ≡ part_distances far l.old l.new

abbrev pub decreases-parts : goal.decreases-parts
decreases-parts g l = length l.olds
