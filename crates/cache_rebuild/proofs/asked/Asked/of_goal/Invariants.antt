use Rattle.std.proofs.Common.{[], map}
use Rattle.node_names.specs.declared.name.Name.TheVariants.{Out}
use Rattle.run_model.specs.Tasks.{last, last_outs}
use Rattle.loop_scheduler.proofs.Ranges.{from_on}
use Rattle.cache_rebuild.specs.steps.Asking.{lost}
use Rattle.cache_rebuild.proofs.Asks.{Asking}
use Rattle.cache_rebuild.proofs.asked.Asked.of_goal.Given as goal

abbrev pub invariant-parts : goal.invariant-parts
invariant-parts l = Asking [] l.asked.names.keys (lost l.fn.view (map (Out l.fn.goal.round (last l.fn.view.shape)) (from_on l.part l.part-end))) (lost l.fn.view (last_outs l.fn.view.shape l.fn.goal.round))
