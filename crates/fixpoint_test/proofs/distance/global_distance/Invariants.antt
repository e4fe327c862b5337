use Rattle.std.proofs.Common.{◌≡◌, min, sum, take}
use Rattle.fixpoint_test.proofs.distance.global_distance.Given as goal

abbrev pub invariant-parts : goal.invariant-parts
invariant-parts l = l.total ≡ min (sum (take l.part-index l.parts)) 9223372036854775807
