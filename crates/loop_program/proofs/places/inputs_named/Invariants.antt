use Rattle.std.proofs.Common.{◌≡◌, drop}
use Rattle.loop_program.specs.Found.{each}
use Rattle.loop_program.specs.Places.{input_named}
use Rattle.loop_program.proofs.Collecting.{behind}
use Rattle.loop_program.proofs.places.inputs_named.Given as goal

abbrev pub invariant-inputs : goal.invariant-inputs
invariant-inputs l =
    each (input_named l.tables l.functions) l.inputs ≡ behind l.named (each (input_named l.tables l.functions) (drop l.input-index l.inputs))
