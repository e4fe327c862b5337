use Rattle.node_names.specs.declared.task.Task.TheVariants.{Test}
use Rattle.loop_scheduler.proofs.Ranges.{coming_more}
use Rattle.loop_scheduler.proofs.tasks.push_tests.Goals as goal

pub parts-preserved : goal.parts-preserved
parts-preserved c = coming_more (Test c.args.round) c.parts.tasks c.push.new.self _ c.parts.part c.tests_in-part-end.result c.parts-test.true c.in_ok-push.ensures.ok c.parts.invariant
