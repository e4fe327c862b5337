use Rattle.hal_base.proofs.Sorts.{sort_is_sorted}
use Rattle.hal_base.specs.Laws.{record_cmp_total, record_cmp_exact}
use Rattle.std.proofs.Common.{◌∙◌}
use Rattle.hal_base.proofs.record.sort_rows.Goals as goal

pub returns : goal.returns
returns c = c.from_vec.ensures ∙ sort_is_sorted record_cmp_total record_cmp_exact c.args.rows _ (rw c.into_vec-rows.ensures at c.sort_unstable.ensures.permutation) c.sort_unstable.ensures.sorted
