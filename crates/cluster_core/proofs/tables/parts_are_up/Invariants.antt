use Rattle.std.proofs.Common.{◌≡◌, ◌-◌}
use Rattle.run_model.specs.Tasks.{last}
use Rattle.cluster_core.proofs.Places.{all_outs}
use Rattle.cluster_core.proofs.tables.parts_are_up.Given as goal

abbrev pub invariant-parts : goal.invariant-parts
invariant-parts l = all_outs l.fn.table l.fn.round (last l.fn.shape) l.part (l.part-end - l.part) ≡ all_outs l.fn.table l.fn.round (last l.fn.shape) 0 l.fn.shape.parts
