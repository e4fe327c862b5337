use Rattle.std.proofs.Common.{◌≡◌, ◌≤◌, ◌+◌, ◌++◌, map, drop, length}
use Rattle.plain_job.specs.Chain.{source_rows, together}
use Rattle.memory_run.specs.steps.Sections.{left_of}
use Rattle.memory_run.specs.steps.Inputs.{all_given}
use Rattle.memory_run.proofs.sources.spill_others.Given as goal

abbrev pub invariant-sources : goal.invariant-sources
invariant-sources g l =
    let means = g.F.Functions.meaning l.functions in
    let parts = l.context.shape.now.parts in
    let rows = source_rows l.context.tables.now l.context.round (together l.context.state.now) (together l.before) in
    (l.number ≡ l.input-index + 1) × (length l.others ≤ 7) × map left_of l.spills.items ++ all_given means parts rows l.context.round l.step (l.number + 1) (drop l.input-index l.others) ≡ all_given means parts rows l.context.round l.step 2 l.others
