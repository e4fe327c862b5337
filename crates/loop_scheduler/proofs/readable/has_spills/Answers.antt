use Rattle.std.proofs.Common.{◌+◌, ◌∙◌, sym}
use Rattle.run_model.specs.Needs.{is_up}
use Rattle.loop_scheduler.specs.steps.Reading.{spills_read}
use Rattle.loop_scheduler.proofs.Ranges.{testing_all_more, testing_all_stops}
use Rattle.loop_scheduler.proofs.readable.has_spills.Goals as goal

pub returns-then-not-has_source : goal.returns-then-not-has_source
returns-then-not-has_source c = testing_all_stops (is_up c.args.view.now.copies c.args.view.now.up) (spills_read c.args.view.now.shape c.args.round c.args.step) c.sources.source (c.source_count-source-end.result + 1) _ c.sources-test.true (sym c.has_source.ensures ∙ c.if-not-has_source.true) c.sources.invariant

pub sources-preserved : goal.sources-preserved
sources-preserved c = testing_all_more (is_up c.args.view.now.copies c.args.view.now.up) (spills_read c.args.view.now.shape c.args.round c.args.step) c.sources.source (c.source_count-source-end.result + 1) _ c.sources-test.true (sym c.has_source.ensures ∙ c.if-not-has_source.false) c.sources.invariant
