use Rattle.cluster_core.proofs.Fillings.{AllUntil}
use Rattle.cluster_core.specs.Filling.{table_files}
use Rattle.cluster_core.specs.Loading.{setup_of}
use Rattle.cluster_core.proofs.loading.write_tables.Given as goal

abbrev pub invariant-tables : goal.invariant-tables
invariant-tables g l = AllUntil g.D.Disks (table_files (setup_of l.fn.given.shape.now l.fn.given.schedule.now) l.fn.given.tables.now) l.number l.number-end l.initial.disks l.initial.table l.table l.disks
