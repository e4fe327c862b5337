use Rattle.std.proofs.Common.{◌≡◌, ◌++◌, ◌+◌, refl, sym, ap, ◌∙◌, subst, arith, length, take, drop}
use Rattle.std.proofs.lemmas.List.{take_at}
use Rattle.memory_run.specs.steps.Inputs.{ServeStep}
use Rattle.memory_run.proofs.Keeping.{step_kept, few_kept}
use Rattle.memory_run.proofs.kept.keep_in_steps.Goals as goal

pub steps-preserved : goal.steps-preserved
steps-preserved g c =
    let m = g.F.Functions.meaning c.args.functions.now in
    let after = c.keep_in_step.new.inputs in
    let inside = c.inputs.inside.all in
    let now = c.deref_mut.ensures.value ∙ c.inputs.view_is in
    let many : length after ≡ inside.len = omega (arith, c.keep_in_step.auto.inputs, ap length c.deref_mut.ensures.value, inside.ok) in
    let stored : take inside.len (after ++ drop (length after) inside.items) ≡ after = take_at after (drop (length after) inside.items) inside.len many in
    record {
      few = rw stored (few_kept c.steps.plan c.steps.step after c.in_ok-keep_in_step.ensures.few c.steps.invariant.few);
      serve = λ real left here h. rw stored (step_kept m c.args.table.now.shape.now real left c.steps.plan c.steps.step (c.steps.step + 1) c.args.table.now.number c.args.table.now.rows.now c.index-plan-step.result after c.steps-test.true refl here (λ rows own i sources read h. c.in_ok-keep_in_step.ensures.serve rows own i sources read (subst (λ inputs. ServeStep m c.args.table.now.shape.now.parts rows own i (c.steps.step + 1) sources inputs) (sym now) h)) (c.steps.invariant.serve real left here h));
    }
