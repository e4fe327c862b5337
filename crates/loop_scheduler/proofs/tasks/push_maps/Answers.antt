use Rattle.std.proofs.Common.{◌+◌}
use Rattle.loop_scheduler.proofs.Making.{maps_of}
use Rattle.loop_scheduler.proofs.Ranges.{flowing_more}
use Rattle.loop_scheduler.proofs.tasks.push_maps.Goals as goal

pub sources-preserved : goal.sources-preserved
sources-preserved c = flowing_more (maps_of c.args.shape.now c.args.round c.args.step) c.sources.tasks c.push_source.new.tasks _ c.sources.source (c.source_count-source-end.result + 1) c.sources-test.true c.in_ok-push_source.ensures c.sources.invariant
