use Rattle.std.proofs.Common.{◌++◌, map}
use Rattle.node_names.specs.declared.task.Task.TheVariants.{Map}
use Rattle.run_model.specs.Tasks.{splits}
use Rattle.loop_scheduler.proofs.Ranges.{Coming}
use Rattle.loop_scheduler.proofs.tasks.push_source.Given as goal

abbrev pub invariant-splits : goal.invariant-splits
invariant-splits l = Coming (Map l.fn.round l.fn.step l.fn.source) l.tasks l.split l.split-end (l.fn.tasks ++ map (Map l.fn.round l.fn.step l.fn.source) (splits l.fn.shape l.fn.round l.fn.step l.fn.source))
