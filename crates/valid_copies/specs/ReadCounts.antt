-- How many files an attempt read.
use Rattle.std.specs.Prelude.{[]}
use Rattle.run_model.specs.Reading.{Reading}
use Rattle.run_model.specs.State.{PlainCluster}
use Rattle.valid_copies.specs.declared.inputs.ReadCounts.{ReadCounts}

-- what was read, by these counts: the cluster is as it was, and no cache was left unread
abbrev pub read_so_far : ReadCounts → PlainCluster → Reading
read_so_far counts c = record { cluster = c; local = counts.local; remote = counts.remote; caches = counts.caches; unread = [] }
