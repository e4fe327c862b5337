use Rattle.std.proofs.Common.{◌≡◌, ◌++◌, true, map, length}
use Rattle.std.specs.List.{flat_map}
use Rattle.plain_job.specs.Job.{job}
use Rattle.group_reduce.specs.declared.KeyGroups.{KeyGroups}
use Rattle.group_reduce.specs.Groups.{keyed_groups}
use Rattle.group_reduce.proofs.reduce_part.Given as goal

-- what is out and what the keys that are left emit are the job
abbrev pub invariant-keys : goal.invariant-keys
invariant-keys g l =
    let rows = g.S.SortedStream.rows in
    let means = (g.F.Functions.meaning l.functions).reduce l.round l.step in
    l.out ++ flat_map (λ (next : KeyGroups). means next.key next.groups) (keyed_groups (map rows l.streams)) ≡ job means (λ _. true) (map rows l.initial.streams)

abbrev pub decreases-keys : goal.decreases-keys
decreases-keys g l = length (keyed_groups (map g.S.SortedStream.rows l.streams))
