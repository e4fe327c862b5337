use Rattle.loop_program.specs.steps.Tells.{with_parts}
use Rattle.loop_program.proofs.KeptRules.{accepted_kept}
use Rattle.loop_program.proofs.reading.accept.Goals as goal

pub invariant_of-result : goal.invariant_of-result
invariant_of-result c =
    accepted_kept c.args.sketch (with_parts c.args.sketch c.in_ok-parts.parts) c.requires.typed c.requires.spelled c.requires.steps c.in_ok-parts.ensures

pub returns-clause-kept : goal.returns-clause-kept
returns-clause-kept c =
    accepted_kept c.args.sketch (with_parts c.args.sketch c.in_ok-parts.parts) c.requires.typed c.requires.spelled c.requires.steps c.in_ok-parts.ensures
