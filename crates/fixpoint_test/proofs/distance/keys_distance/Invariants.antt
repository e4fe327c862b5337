use Rattle.std.proofs.Common.{◌≡◌, ◌≤◌, ◌+◌, min, sum, map, length}
use Rattle.group_reduce.specs.Groups.{keyed_groups}
use Rattle.fixpoint_test.specs.steps.InOrder.{far_of}
use Rattle.fixpoint_test.proofs.distance.keys_distance.Given as goal

-- the total and the sum of what is left, up to the greatest number, are the whole
abbrev pub invariant-keys : goal.invariant-keys
invariant-keys g l =
    let rows = g.S.SortedStream.rows in
    let far = far_of (g.F.Functions.meaning l.functions).distance in
    record {
      capped : l.total ≤ 9223372036854775807;
      whole : min (l.total + sum (map far (keyed_groups (map rows l.streams)))) 9223372036854775807 ≡ min (sum (map far (keyed_groups (map rows l.initial.streams)))) 9223372036854775807;
    }

abbrev pub decreases-keys : goal.decreases-keys
decreases-keys g l = length (keyed_groups (map g.S.SortedStream.rows l.streams))
