use Rattle.std.proofs.Common.{◌++◌}
use Rattle.run_model.specs.Tasks.{maps}
use Rattle.loop_scheduler.proofs.Ranges.{Flowing}
use Rattle.loop_scheduler.proofs.Making.{maps_of}
use Rattle.loop_scheduler.proofs.tasks.push_maps.Given as goal

abbrev pub invariant-sources : goal.invariant-sources
invariant-sources l = Flowing (maps_of l.fn.shape l.fn.round l.fn.step) l.tasks l.source l.source-end (l.fn.tasks ++ maps l.fn.shape l.fn.round l.fn.step)
