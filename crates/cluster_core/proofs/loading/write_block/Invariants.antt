use Rattle.cluster_core.proofs.Fillings.{EachUntil}
use Rattle.cluster_core.specs.Filling.{copy_of}
use Rattle.cluster_core.proofs.loading.write_block.Given as goal

abbrev pub invariant-copies : goal.invariant-copies
invariant-copies g l = EachUntil g.D.Disks (copy_of l.fn.schedule.nodes l.fn.number l.fn.block l.fn.bytes) l.k l.k-end l.initial.disks l.initial.table l.table l.disks
