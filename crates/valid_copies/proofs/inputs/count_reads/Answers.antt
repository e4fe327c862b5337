use Rattle.std.proofs.Common.{◌+◌, drop, sym, ap, ◌∙◌, arith}
use Rattle.std.proofs.lemmas.List.{at_drop_more}
use Rattle.valid_copies.specs.Inputs.{counted_files}
use Rattle.valid_copies.specs.ReadCounts.{read_so_far}
use Rattle.valid_copies.proofs.inputs.count_reads.Goals as goal

pub files-preserved : goal.files-preserved
files-preserved c = record {
  counted = λ d.
      ap (counted_files c.args.own (drop (c.files.file-index + 1) c.args.files.now)) (c.count_read-counts.ensures.counted d)
      ∙ sym (at_drop_more (λ files. counted_files c.args.own files (read_so_far c.files.counts d)) c.args.files.now c.files.file-index _ c.files-test.true)
      ∙ c.files.invariant.counted d;
  local = omega (arith, c.files.invariant.local, c.count_read-counts.ensures.local);
  remote = omega (arith, c.files.invariant.remote, c.count_read-counts.ensures.remote);
  caches = omega (arith, c.files.invariant.caches, c.count_read-counts.ensures.caches);
}
