use Rattle.std.proofs.Common.{◌≡◌, subst, ap}
use Rattle.run_model.specs.Tasks.{source_numbers}
use Rattle.loop_scheduler.specs.Reads.{files_of}
use Rattle.loop_scheduler.proofs.Making.{reduce_lists}
use Rattle.std.specs.Result.{IfOk}
use Rattle.loop_scheduler.proofs.reads.task_files.Goals as goal

pub returns-in-Reduce : goal.returns-in-Reduce
returns-in-Reduce c = rw (ap (files_of c.args.shape.now) c.in-Reduce.is) (subst (λ lists. IfOk c.spill_files.result (λ found. found ≡ lists)) (reduce_lists c.args.shape.now c.in-Reduce.round c.in-Reduce.step c.in-Reduce.part (source_numbers c.args.shape.now c.in-Reduce.step)) c.spill_files.ensures)
