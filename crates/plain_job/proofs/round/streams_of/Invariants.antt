use Rattle.std.proofs.Common.{◌≡◌, ◌≤◌, ◌++◌, ◌+◌, drop, length}
use Rattle.plain_job.specs.Chain.{source_rows, streams}
use Rattle.plain_job.proofs.round.streams_of.Given as goal

abbrev pub invariant-sources : goal.invariant-sources
invariant-sources g l =
    let means = g.F.Functions.meaning l.functions in
    let rows = source_rows l.inputs.tables.now l.inputs.round l.inputs.state.now l.before in
    (l.number ≡ l.source-index) × (length l.source-items ≤ 8) × l.found ++ streams means l.inputs.round l.step rows (l.number + 1) (drop l.source-index l.source-items) ≡ streams means l.inputs.round l.step rows 1 l.source-items
