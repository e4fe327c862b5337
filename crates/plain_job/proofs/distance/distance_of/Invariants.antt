use Rattle.std.proofs.Common.{◌≡◌, min, sum, map, take}
use Rattle.hal_base.specs.declared.value.Value.{Value}
use Rattle.plain_job.specs.Distances.{key_distance}
use Rattle.plain_job.specs.Job.{group}
use Rattle.plain_job.proofs.distance.distance_of.Given as goal

abbrev pub invariant-keys : goal.invariant-keys
invariant-keys g l =
    let means = g.F.Functions.meaning l.functions in
    let far = λ (key : Value). key_distance means l.shape.exact key (group l.old key) (group l.new key) in
    l.total ≡ min (sum (map far (take l.key-index l.key-items))) 9223372036854775807
