use Rattle.std.proofs.Common.{[], ◌∷◌, ◌++◌, ap, ◌∙◌}
use Rattle.node_names.specs.declared.name.Name.TheVariants.{Out}
use Rattle.run_model.specs.Tasks.{last}
use Rattle.loop_scheduler.proofs.Ranges.{coming_more}
use Rattle.loop_scheduler.proofs.reads.push_parts.Goals as goal

pub parts-preserved : goal.parts-preserved
parts-preserved c =
    coming_more (Out c.args.round (last c.args.shape.now)) c.parts.files c.push.new.self _ c.parts.part c.args.shape.now.parts c.parts-test.true
    (c.in_ok-push.ensures.ok ∙ ap (λ step. c.parts.files ++ Out c.args.round step c.parts.part ∷ []) c.last_step-step.ensures) c.parts.invariant
