use Rattle.std.proofs.Common.{◌≡◌, [], drop}
use Rattle.plain_job.specs.Job.{stream}
use Rattle.sorted_parts.specs.steps.Dealt.{dealt}
use Rattle.sorted_parts.proofs.shuffle.deal.Given as goal

-- what the records that are left emit makes the parts what all records make of them
abbrev pub invariant-rows : goal.invariant-rows
invariant-rows g l =
    let means = g.F.Functions.meaning l.functions in
    let emitted = stream (means.map l.round l.step l.source) (drop l.row-index l.row-items) in
    record {
      none : l.emitted ≡ [];
      dealt : dealt means l.round l.step 0 l.parts emitted ≡ dealt means l.round l.step 0 l.initial.parts (stream (means.map l.round l.step l.source) l.row-items);
    }
