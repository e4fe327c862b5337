use Rattle.std.proofs.Common.{◌≡◌, ◌++◌, map}
use Rattle.haloop_run.specs.steps.Clearing.{cleared_step}
use Rattle.haloop_run.proofs.clearing.clear_steps.Given as goal

abbrev pub invariant-steps : goal.invariant-steps
invariant-steps l = l.made ++ map cleared_step l.step-iterator.rest.items ≡ map cleared_step l.fn.steps
