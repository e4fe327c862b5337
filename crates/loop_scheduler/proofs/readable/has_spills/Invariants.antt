use Rattle.std.specs.List.{flat_map}
use Rattle.run_model.specs.Needs.{is_up}
use Rattle.run_model.specs.Tasks.{source_numbers}
use Rattle.loop_scheduler.specs.steps.Reading.{spills_read}
use Rattle.loop_scheduler.proofs.Ranges.{TestingAll}
use Rattle.loop_scheduler.proofs.readable.has_spills.Given as goal

abbrev pub invariant-sources : goal.invariant-sources
invariant-sources l = TestingAll (is_up l.fn.view.copies l.fn.view.up) (spills_read l.fn.view.shape l.fn.round l.fn.step) l.source l.source-end (flat_map (spills_read l.fn.view.shape l.fn.round l.fn.step) (source_numbers l.fn.view.shape l.fn.step))
