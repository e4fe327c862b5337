use Rattle.std.proofs.Common.{ap, ◌∙◌, sym}
use Rattle.node_names.specs.declared.name.Name.TheVariants.{Out}
use Rattle.run_model.specs.Needs.{is_up}
use Rattle.run_model.specs.Tasks.{last, last_outs}
use Rattle.loop_scheduler.proofs.Ranges.{testing_more}
use Rattle.loop_scheduler.proofs.readable.has_all_parts.Goals as goal

pub parts-preserved : goal.parts-preserved
parts-preserved c =
    testing_more (is_up c.args.view.now.copies c.args.view.now.up) (Out c.args.round (last c.args.view.now.shape)) c.parts.part c.shape-2.result.now.parts (last_outs c.args.view.now.shape c.args.round) c.parts-test.true
    (ap (λ step. is_up c.args.view.now.copies c.args.view.now.up (Out c.args.round step c.parts.part)) (sym (c.last_step-step.ensures ∙ ap last c.shape.ensures.same)) ∙ sym c.is_up.ensures ∙ c.if-not-is_up.false)
    c.parts.invariant
