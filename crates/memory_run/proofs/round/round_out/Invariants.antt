use Rattle.std.proofs.Common.{◌≡◌, ◌≤◌, ◌+◌, [], drop, length}
use Rattle.plain_job.specs.Chain.{together}
use Rattle.memory_run.specs.steps.Inputs.{plan_made, with_made}
use Rattle.memory_run.proofs.round.round_out.Given as goal

abbrev pub invariant-steps : goal.invariant-steps
invariant-steps g l =
    let means = g.F.Functions.meaning l.functions in
    let parts = l.context.shape.now.parts in
    let tables = l.context.tables.now in
    let state = together l.context.state.now in
    (l.number ≡ l.sources-index) × (length l.plan ≤ 8) × plan_made means parts tables l.context.round (l.number + 1) state l.out (with_made l.made (drop l.sources-index l.plan)) ≡ plan_made means parts tables l.context.round 1 state [] (with_made l.fn.made l.plan)
