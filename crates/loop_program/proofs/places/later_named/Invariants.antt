use Rattle.std.proofs.Common.{◌≡◌, drop}
use Rattle.hal_base.specs.declared.shape.Origin.TheVariants.{Prev}
use Rattle.loop_program.specs.Found.{each}
use Rattle.loop_program.specs.Places.{step_named}
use Rattle.loop_program.proofs.Collecting.{behind}
use Rattle.loop_program.proofs.places.later_named.Given as goal

abbrev pub invariant-steps : goal.invariant-steps
invariant-steps l =
    each (step_named l.tables l.functions Prev) l.steps ≡ behind l.named (each (step_named l.tables l.functions Prev) (drop l.step-index l.steps))
