use Rattle.std.proofs.Common.{◌≡◌, take}
use Rattle.cluster_core.proofs.loading.copy_of.Given as goal

abbrev pub invariant-rows : goal.invariant-rows
invariant-rows l = l.copied ≡ take l.row-index l.rows
