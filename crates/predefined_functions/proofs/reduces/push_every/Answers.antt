use Rattle.std.proofs.Common.{ap, ◌∙◌, ◌++◌, map}
use Rattle.plain_job.specs.Predefined as predefined
use Rattle.predefined_functions.proofs.EverySteps.{every_further}
use Rattle.predefined_functions.proofs.Extending.{extends_twice}
use Rattle.predefined_functions.proofs.reduces.push_every.Goals as goal

pub groups-preserved : goal.groups-preserved
groups-preserved c = (
  every_further c.args.key.now c.args.groups.now c.groups.group-index c.group-item.result _ _ _ c.groups-test.true c.group-item.is
      (c.in_ok-push_rows.ensures.appended ∙ ap (λ g. c.groups.out ++ map (λ fields. predefined.made c.args.key.now fields) g) c.as_slice.ensures) c.groups.invariant.0,
  extends_twice _ _ _ c.groups.invariant.1 c.push_rows.ensures.kept,
)
