use Rattle.cluster_core.proofs.Fillings.{AllUntil}
use Rattle.cluster_core.specs.Filling.{block_files}
use Rattle.cluster_core.specs.Loading.{setup_of}
use Rattle.cluster_core.proofs.loading.write_table.Given as goal

abbrev pub invariant-pieces : goal.invariant-pieces
invariant-pieces g l = AllUntil g.D.Disks (block_files (setup_of l.fn.given.shape.now l.fn.given.schedule.now) l.fn.given.tables.now l.fn.number) l.block l.block-end l.initial.disks l.initial.table l.table l.disks
