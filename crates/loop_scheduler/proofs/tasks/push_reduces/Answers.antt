use Rattle.node_names.specs.declared.task.Task.TheVariants.{Reduce}
use Rattle.loop_scheduler.proofs.Ranges.{coming_more}
use Rattle.loop_scheduler.proofs.tasks.push_reduces.Goals as goal

pub parts-preserved : goal.parts-preserved
parts-preserved c = coming_more (Reduce c.args.round c.args.step) c.parts.tasks c.push.new.self _ c.parts.part c.args.shape.now.parts c.parts-test.true c.in_ok-push.ensures.ok c.parts.invariant
