use Rattle.std.proofs.Common.{[], ◌∷◌, ◌++◌, ap, ◌∙◌}
use Rattle.node_names.specs.declared.name.Name.TheVariants.{Spill}
use Rattle.loop_scheduler.specs.steps.Reading.{spill_round}
use Rattle.loop_scheduler.proofs.Ranges.{coming_more}
use Rattle.loop_scheduler.proofs.reads.source_spills.Goals as goal

pub splits-preserved : goal.splits-preserved
splits-preserved c =
    coming_more (Spill (spill_round c.args.shape.now c.args.round c.args.step c.args.source) c.args.step c.args.source) c.splits.files c.push.new.self _ c.splits.split c.split_count-split-end.result c.splits-test.true
    (c.in_ok-push.ensures.ok ∙ ap (λ made. c.splits.files ++ Spill made c.args.step c.args.source c.splits.split ∷ []) c.spill_round-made.ensures) c.splits.invariant
