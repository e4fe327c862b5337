use Rattle.std.proofs.Common.{◌++◌}
use Rattle.node_names.specs.declared.name.Name.TheVariants.{Out}
use Rattle.run_model.specs.Tasks.{last, last_outs}
use Rattle.loop_scheduler.proofs.Ranges.{Coming}
use Rattle.loop_scheduler.proofs.reads.push_parts.Given as goal

abbrev pub invariant-parts : goal.invariant-parts
invariant-parts l = Coming (Out l.fn.round (last l.fn.shape)) l.files l.part l.part-end (l.fn.files ++ last_outs l.fn.shape l.fn.round)
