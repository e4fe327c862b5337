use Rattle.std.proofs.Common.{◌≡◌, ◌++◌, ◌==◌, map, drop}
use Rattle.std.specs.List.{filter, flat_map}
use Rattle.hal_base.specs.declared.value.Value.{Value}
use Rattle.plain_job.specs.Job.{group}
use Rattle.plain_job.proofs.plain.plain_part.Given as goal

abbrev pub invariant-keys : goal.invariant-keys
invariant-keys g l =
    let means = g.F.Functions.meaning l.functions in
    let emitted = λ (key : Value). means.reduce l.round l.step key (map (λ rows. group rows key) l.streams) in
    let chosen = λ (key : Value). means.partition l.round l.step key == l.part in
    l.out ++ flat_map emitted (filter chosen (drop l.key-index l.key-items)) ≡ flat_map emitted (filter chosen l.key-items)
