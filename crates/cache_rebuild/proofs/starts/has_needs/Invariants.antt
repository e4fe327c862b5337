use Rattle.run_model.specs.Needs.{is_there, needs}
use Rattle.loop_scheduler.proofs.Ranges.{TestingAll}
use Rattle.cache_rebuild.specs.steps.Needing.{needed}
use Rattle.cache_rebuild.proofs.starts.has_needs.Given as goal

abbrev pub invariant-inputs : goal.invariant-inputs
invariant-inputs l = TestingAll (is_there l.fn.view.copies l.fn.view.up l.fn.node) (needed l.fn.view l.fn.node l.fn.task) l.input l.input-end (needs l.fn.view.shape l.fn.view.copies l.fn.node l.fn.task)
