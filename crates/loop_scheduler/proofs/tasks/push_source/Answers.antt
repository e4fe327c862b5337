use Rattle.node_names.specs.declared.task.Task.TheVariants.{Map}
use Rattle.loop_scheduler.proofs.Ranges.{coming_more}
use Rattle.loop_scheduler.proofs.tasks.push_source.Goals as goal

pub splits-preserved : goal.splits-preserved
splits-preserved c = coming_more (Map c.args.round c.args.step c.args.source) c.splits.tasks c.push.new.self _ c.splits.split c.split_count-split-end.result c.splits-test.true c.in_ok-push.ensures.ok c.splits.invariant
