use Rattle.std.proofs.Common.{◌++◌}
use Rattle.node_names.specs.declared.task.Task.TheVariants.{Test}
use Rattle.run_model.specs.Tasks.{tests}
use Rattle.loop_scheduler.proofs.Ranges.{Coming}
use Rattle.loop_scheduler.proofs.tasks.push_tests.Given as goal

abbrev pub invariant-parts : goal.invariant-parts
invariant-parts l = Coming (Test l.fn.round) l.tasks l.part l.part-end (l.fn.tasks ++ tests l.fn.shape l.fn.round)
