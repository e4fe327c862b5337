use Rattle.std.proofs.Common.{ap, ◌∙◌, sym}
use Rattle.hal_base.specs.declared.shape.Shape.{Shape}
use Rattle.node_names.specs.declared.name.Name.TheVariants.{Spill}
use Rattle.run_model.specs.Needs.{is_up}
use Rattle.loop_scheduler.specs.steps.Reading.{spill_round, spills_read}
use Rattle.loop_scheduler.proofs.Ranges.{testing_more}
use Rattle.loop_scheduler.proofs.readable.has_source.Goals as goal

pub splits-preserved : goal.splits-preserved
splits-preserved c =
    testing_more (is_up c.args.view.now.copies c.args.view.now.up) (Spill (spill_round c.args.view.now.shape c.args.round c.args.step c.args.source) c.args.step c.args.source) c.splits.split c.split_count-split-end.result (spills_read c.args.view.now.shape c.args.round c.args.step c.args.source) c.splits-test.true
    (ap (λ made. is_up c.args.view.now.copies c.args.view.now.up (Spill made c.args.step c.args.source c.splits.split)) (sym (c.spill_round-made.ensures ∙ ap (λ (shape : Shape). spill_round shape c.args.round c.args.step c.args.source) c.shape.ensures.same)) ∙ sym c.is_up.ensures ∙ c.if-not-is_up.false)
    c.splits.invariant
