use Rattle.std.proofs.Common.{◌++◌}
use Rattle.node_names.specs.declared.task.Task.TheVariants.{Reduce}
use Rattle.run_model.specs.Tasks.{reduces}
use Rattle.loop_scheduler.proofs.Ranges.{Coming}
use Rattle.loop_scheduler.proofs.tasks.push_reduces.Given as goal

abbrev pub invariant-parts : goal.invariant-parts
invariant-parts l = Coming (Reduce l.fn.round l.fn.step) l.tasks l.part l.part-end (l.fn.tasks ++ reduces l.fn.shape l.fn.round l.fn.step)
