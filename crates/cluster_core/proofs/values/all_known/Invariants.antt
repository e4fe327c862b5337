use Rattle.std.proofs.Common.{◌≡◌, drop}
use Rattle.std.specs.List.{list_all}
use Rattle.cluster_core.specs.States.{is_known}
use Rattle.cluster_core.proofs.values.all_known.Given as goal

abbrev pub invariant-values : goal.invariant-values
invariant-values l = list_all is_known (drop l.value-index l.values) ≡ list_all is_known l.values
