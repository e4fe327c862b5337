use Rattle.std.proofs.Common.{◌+◌, [], ◌∷◌, ◌++◌, ap, ◌∙◌}
use Rattle.loop_scheduler.specs.steps.Reading.{spills_read}
use Rattle.loop_scheduler.proofs.Ranges.{coming_more}
use Rattle.loop_scheduler.proofs.reads.spill_files.Goals as goal

pub sources-preserved : goal.sources-preserved
sources-preserved c =
    coming_more (spills_read c.args.shape.now c.args.round c.args.step) c.sources.lists c.push.new.self _ c.sources.source (c.source_count-source-end.result + 1) c.sources-test.true
    (c.in_ok-push.ensures.ok ∙ ap (λ files. c.sources.lists ++ files ∷ []) c.in_ok-source_spills.ensures) c.sources.invariant
