use Rattle.std.proofs.Common.{sym}
use Rattle.loop_program.proofs.KeptRules.{steps_few}
use Rattle.loop_program.proofs.reading.find_parts.Goals as goal

pub parts_of-requires : goal.parts_of-requires
parts_of-requires c =
    let few = steps_few c.args.sketch.now c.in_ok-found.found c.as_slice-2.result.now c.in_ok-steps.steps _ (sym c.in_ok-limits.ensures) c.in_ok-found.ensures c.in_ok-steps.ensures in
    record { few_steps = few.0; few_sources = few.1 }
