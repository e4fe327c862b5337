use Rattle.std.proofs.Common.{nat_lt, length, ap, ◌∙◌}
use Rattle.replica_table.specs.Copies.{nodes_with}
use Rattle.replica_table.specs.Sets.{among}
use Rattle.loop_scheduler.proofs.Ranges.{some_pass}
use Rattle.cache_rebuild.proofs.needs.is_up.Goals as goal

pub returns : goal.returns
returns c =
    ap (nat_lt 0) (c.count.ensures ∙ ap length c.where_is.ensures)
    ∙ some_pass (λ node. among node c.args.view.now.up) (nodes_with c.args.name.now c.args.view.now.copies)
