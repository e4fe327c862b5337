use Rattle.hal_base.specs.Laws.{record_cmp_total}
use Rattle.hal_base.proofs.Sorts.{ascending_sorted}
use Rattle.plain_job.specs.Chain.{together}
use Rattle.sorted_parts.proofs.merged.merge.Goals as goal

pub new-requires : goal.new-requires
new-requires c = rw c.in_ok-rows.ensures (ascending_sorted record_cmp_total (together c.args.sections))
