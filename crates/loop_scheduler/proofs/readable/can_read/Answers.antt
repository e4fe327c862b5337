use Rattle.std.proofs.Common.{ap, ◌∙◌, sym}
use Rattle.run_model.specs.Tasks.{source_numbers}
use Rattle.loop_scheduler.specs.Reads.{can_read}
use Rattle.loop_scheduler.specs.steps.Reading.{all_up}
use Rattle.loop_scheduler.proofs.Making.{reduce_files}
use Rattle.loop_scheduler.proofs.readable.can_read.Goals as goal

pub returns-in-Reduce : goal.returns-in-Reduce
returns-in-Reduce c =
    c.has_spills.ensures
    ∙ ap (all_up c.args.view.now) (reduce_files c.args.view.now.shape c.in-Reduce.round c.in-Reduce.step c.in-Reduce.part (source_numbers c.args.view.now.shape c.in-Reduce.step))
    ∙ ap (can_read c.args.view.now) (sym c.in-Reduce.is)
