use Rattle.std.proofs.Common.{◌≡◌, ◌++◌, drop}
use Rattle.memory_run.specs.steps.Inputs.{read_by_steps}
use Rattle.memory_run.proofs.inputs.all_read.Given as goal

abbrev pub invariant-steps : goal.invariant-steps
invariant-steps l = l.plan.items ++ read_by_steps (drop l.step-index l.step-items) ≡ read_by_steps l.step-items
