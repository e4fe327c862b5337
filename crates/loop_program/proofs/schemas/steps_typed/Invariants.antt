use Rattle.std.proofs.Common.{◌≡◌, drop}
use Rattle.loop_program.specs.Schemas as spec
use Rattle.loop_program.proofs.Collecting.{behind}
use Rattle.loop_program.proofs.schemas.steps_typed.Given as goal

abbrev pub invariant-steps : goal.invariant-steps
invariant-steps l =
    spec.steps_typed l.functions l.tables l.state l.state l.steps ≡ behind l.made (spec.steps_typed l.functions l.tables l.state l.output (drop l.step-index l.steps))
