use Rattle.std.proofs.Common.{ap, ◌∙◌, ◌++◌, List}
use Rattle.std.specs.List.{flat_map}
use Rattle.hal_base.specs.declared.value.Value.{Value}
use Rattle.plain_job.specs.Predefined as predefined
use Rattle.predefined_functions.proofs.Extending.{extends_twice}
use Rattle.predefined_functions.proofs.Steps.{one_further}
use Rattle.predefined_functions.proofs.hops.push_each.Goals as goal

pub distances-preserved : goal.distances-preserved
distances-preserved c =
    let given = λ (d : List Value). flat_map (λ (t : List Value). predefined.keyed t (predefined.next_of d)) c.args.targets.now in (
      one_further given c.args.distances.now c.distances.distance-index c.distance-item.result _ _ _ c.distances-test.true c.distance-item.is
          (c.in_ok-push_hop.ensures.appended ∙ ap (λ d. c.distances.out ++ given d) c.as_slice.ensures.value) c.distances.invariant.0,
      extends_twice _ _ _ c.distances.invariant.1 c.push_hop.ensures.kept,
    )
