use Rattle.std.proofs.Common.{◌≡◌, ◌++◌, ◌-◌, true, map}
use Rattle.plain_job.specs.Chain.{source_rows, together}
use Rattle.plain_job.specs.Job.{job}
use Rattle.memory_run.specs.steps.Sections.{left_of}
use Rattle.memory_run.specs.steps.Inputs.{parts_made, step_made, with_first}
use Rattle.memory_run.proofs.round.step_out.Given as goal

-- the parts so far, and those that are to be made of what is left of the spills, are all
abbrev pub invariant-parts : goal.invariant-parts
invariant-parts g l =
    let means = g.F.Functions.meaning l.functions in
    let rows = source_rows l.context.tables.now l.context.round (together l.context.state.now) (together l.fn.before) in
    l.out ++ parts_made (job (means.reduce l.context.round l.number) (λ _. true)) (l.parts - l._part) (map left_of l.spills.items) ≡ step_made means l.context.shape.now.parts rows l.context.round l.number (with_first l.fn.made l.inputs)
