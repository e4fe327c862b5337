use Rattle.std.proofs.Common.{◌≡◌, ap, ◌∙◌, map, true, length, drop, arith}
use Rattle.std.proofs.lemmas.List.{take_at}
use Rattle.plain_job.specs.Chain.{source_rows, together}
use Rattle.plain_job.specs.Job.{job}
use Rattle.memory_run.specs.steps.Sections.{first_section, later_sections, left_of}
use Rattle.memory_run.specs.steps.Inputs.{step_made, with_first}
use Rattle.memory_run.proofs.Parting.{one_part_more}
use Rattle.memory_run.proofs.round.step_out.Goals as goal

pub parts-preserved : goal.parts-preserved
parts-preserved g c =
    let context = c.args.context.now in
    let m = g.F.Functions.meaning c.args.functions.now in
    let makes = job (m.reduce context.round c.args.number) (λ _. true) in
    let rows = source_rows context.tables.now context.round (together context.state.now) (together c.args.before) in
    let whole = step_made m context.shape.now.parts rows context.round c.args.number (with_first c.args.made c.args.inputs.now) in
    let left = c.next_part.new.spills in
    let many : length left ≡ c.parts.spills.len = omega (arith, c.next_part.auto.spills, ap length c.deref_mut.ensures.value, c.parts.spills.ok) in
    let stored = take_at left (drop (length left) c.parts.spills.items) c.parts.spills.len many in
    let later = ap (map left_of) stored ∙ c.in_ok-next_part.ensures.later ∙ ap (λ spills. map later_sections (map left_of spills)) c.deref_mut.ensures.value in
    let made = c.in_ok-next_part.ensures.part ∙ ap (λ spills. makes (map first_section (map left_of spills))) c.deref_mut.ensures.value in
    rw c.in_ok-push.ensures.ok (one_part_more makes context.shape.now.parts c.parts._part (map left_of c.parts.spills.items) _ c.parts.out whole c.in_ok-next_part.field-0 c.parts-test.true later made c.parts.invariant)
