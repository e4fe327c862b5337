use Rattle.std.proofs.Common.{◌≡◌, ◌++◌, drop}
use Rattle.cluster_core.specs.Deciding.{known_values}
use Rattle.cluster_core.proofs.deciding.known_values.Given as goal

abbrev pub invariant-values : goal.invariant-values
invariant-values l = l.known.items ++ known_values (drop l.value-index l.values) ≡ known_values l.values
