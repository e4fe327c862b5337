use Rattle.std.proofs.Common.{◌≡◌, ◌++◌, drop}
use Rattle.plain_job.specs.Job.{stream}
use Rattle.plain_job.proofs.plain.plain_stream.Given as goal

abbrev pub invariant-rows : goal.invariant-rows
invariant-rows g l = let means = (g.F.Functions.meaning l.functions).map l.round l.step l.source in l.out ++ stream means (drop l.row-index l.row-items) ≡ stream means l.row-items
