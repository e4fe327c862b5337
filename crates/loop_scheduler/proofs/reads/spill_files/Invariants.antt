use Rattle.std.proofs.Common.{map}
use Rattle.run_model.specs.Tasks.{source_numbers}
use Rattle.loop_scheduler.specs.steps.Reading.{spills_read}
use Rattle.loop_scheduler.proofs.Ranges.{Coming}
use Rattle.loop_scheduler.proofs.reads.spill_files.Given as goal

abbrev pub invariant-sources : goal.invariant-sources
invariant-sources l = Coming (spills_read l.fn.shape l.fn.round l.fn.step) l.lists l.source l.source-end (map (spills_read l.fn.shape l.fn.round l.fn.step) (source_numbers l.fn.shape l.fn.step))
