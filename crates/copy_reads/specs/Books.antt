-- The copies and the journal of a cluster, and the machine's cluster that has them.
use Rattle.std.specs.Prelude.{◌≡◌, ◌<◌, ◌+◌, ◌++◌, ◌∷◌, []}
use Rattle.counter_report.specs.declared.journal.Entry.TheVariants.{Struck}
use Rattle.node_files.specs.declared.files.FileRef.{FileRef}
use Rattle.replica_table.specs.Copies.{but_file}
use Rattle.run_model.specs.Lists.{number_of}
use Rattle.run_model.specs.Reading.{is_struck}
use Rattle.run_model.specs.State.{PlainCluster, bare}
use Rattle.copy_reads.specs.declared.books.Books.{Books}

-- the cluster has these copies, up nodes and journal
pub record IsOf (books : Books) (c : PlainCluster) : Type 0 where
  pub copies : c.copies ≡ bare books.table.copies
  pub up : c.up ≡ books.table.up
  pub journal : c.journal ≡ books.journal

-- the cluster with these copies and this journal in place of its own
abbrev pub with_books : Books → PlainCluster → PlainCluster
with_books books c = record c { copies = bare books.table.copies; journal = books.journal }

-- the copy of a file that was missed is struck, and the journal has its line
abbrev pub struck_in : FileRef → Books → Books
struck_in file books = record {
  table = record books.table { copies = but_file file.name file.node books.table.copies };
  journal = books.journal ++ Struck file.name file.node ∷ [];
  misses = books.misses + 1;
}

-- of each miss the journal has a line, and there are fewer than end the run
pub record Counted (books : Books) : Type 0 where
  pub told : books.misses ≡ number_of is_struck books.journal
  pub few : books.misses < 1000
