use Rattle.std.proofs.Common.{◌≡◌, ◌+◌, ◌++◌, suc, length}
use Rattle.std.specs.List.{AllByRecursion}
use Rattle.hal_base.specs.Shapes.{HasFewSources}
use Rattle.loop_program.specs.Caches.{verdict_flags}
use Rattle.loop_program.specs.Flags.{flagged_steps}
use Rattle.loop_program.proofs.caches.steps_with_caches.Given as goal

abbrev pub invariant-steps : goal.invariant-steps
invariant-steps l =
    let flags = verdict_flags l.fn.functions l.fn.uses l.fn.asked in
    let left = l.step-iterator.rest.items in
    (l.made ++ flagged_steps flags (suc (length l.made)) left ≡ flagged_steps flags 1 l.fn.steps) × (length l.made + length left ≡ length l.fn.steps) × AllByRecursion HasFewSources left
