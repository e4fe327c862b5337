use Rattle.std.proofs.Common.{◌≡◌, ◌+◌, ◌-◌, ◌<◌, ◌++◌, length}
use Rattle.hal_base.specs.Shapes.{step_at}
use Rattle.run_model.specs.Tasks.{source_count}
use Rattle.loop_scheduler.specs.steps.Choosing.{cache_names, holders_of}
use Rattle.loop_scheduler.proofs.Held.{caches_from}
use Rattle.loop_scheduler.proofs.favoured.cache_holders.Given as goal

abbrev pub invariant-sources : goal.invariant-sources
invariant-sources l = record {
  all : l.sets ++ holders_of l.fn.view (caches_from l.fn.view.shape l.fn.step l.fn.part l.source (source_count (step_at l.fn.view.shape l.fn.step) + 1 - l.source)) ≡ holders_of l.fn.view (cache_names l.fn.view.shape l.fn.step l.fn.part);
  few : length l.sets < l.source;
}
