use Rattle.std.proofs.Common.{◌≡◌, ◌≤◌, drop}
use Rattle.run_model.specs.Reading.{nothing_read}
use Rattle.run_model.specs.State.{PlainCluster}
use Rattle.valid_copies.specs.Inputs.{counted_files}
use Rattle.valid_copies.specs.ReadCounts.{read_so_far}
use Rattle.valid_copies.proofs.inputs.count_reads.Given as goal

abbrev pub invariant-files : goal.invariant-files
invariant-files l = record {
  counted : (c : PlainCluster) → counted_files l.own (drop l.file-index l.files) (read_so_far l.counts c) ≡ counted_files l.own l.files (nothing_read c);
  local : l.counts.local ≤ l.file-index;
  remote : l.counts.remote ≤ l.file-index;
  caches : l.counts.caches ≤ l.file-index;
}
