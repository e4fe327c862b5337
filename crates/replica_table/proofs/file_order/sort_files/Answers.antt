use Rattle.hal_base.proofs.Sorts.{sort_is_sorted}
use Rattle.replica_table.specs.FileLaws.{file_cmp_exact, file_cmp_total}
use Rattle.replica_table.proofs.file_order.sort_files.Goals as goal

pub returns : goal.returns
returns c = sort_is_sorted file_cmp_total file_cmp_exact c.args.files.items _ c.sort_unstable.ensures.permutation c.sort_unstable.ensures.sorted
