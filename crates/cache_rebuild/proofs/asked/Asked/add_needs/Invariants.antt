use Rattle.std.specs.List.{flat_map}
use Rattle.run_model.specs.Needs.{missing}
use Rattle.loop_scheduler.proofs.Ranges.{from_on}
use Rattle.cache_rebuild.specs.steps.Asking.{gone}
use Rattle.cache_rebuild.specs.steps.Needing.{needed}
use Rattle.cache_rebuild.proofs.Asks.{Asking}
use Rattle.cache_rebuild.proofs.asked.Asked.add_needs.Given as goal

abbrev pub invariant-inputs : goal.invariant-inputs
invariant-inputs l = Asking l.fn.self.names.keys l.self.names.keys (gone l.fn.view l.fn.node (flat_map (needed l.fn.view l.fn.node l.fn.task) (from_on l.input l.input-end))) (missing l.fn.view l.fn.node l.fn.task)
