use Rattle.std.proofs.Common.{sym, ◌∙◌}
use Rattle.predefined_functions.proofs.LeastSteps.{least_step}
use Rattle.predefined_functions.proofs.least_fields.least_fields.Goals as goal

pub groups-preserved : goal.groups-preserved
groups-preserved c =
    rw (c.least_from-least.ensures, c.as_slice.ensures)
    (sym (least_step _ c.args.groups.now c.groups.group-index c.group-item.result c.groups-test.true c.group-item.is) ∙ c.groups.invariant)
