use Rattle.std.proofs.Common.{sym}
use Rattle.loop_program.proofs.Collecting.{last_schema_is}
use Rattle.loop_program.proofs.reading.last_schema.Goals as goal

pub returns-in-Some : goal.returns-in-Some
returns-in-Some c = sym (last_schema_is c.args.before.now c.args.steps.now c.in-Some.step.now (sym c.in-Some.ensures.value))
