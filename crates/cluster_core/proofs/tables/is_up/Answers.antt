use Rattle.std.proofs.Common.{ap, ◌∙◌, nat_lt, length}
use Rattle.cluster_core.proofs.Places.{up_is}
use Rattle.cluster_core.proofs.tables.is_up.Goals as goal

pub returns : goal.returns
returns c = ap (nat_lt 0) (c.count.ensures ∙ ap length c.where_is.ensures.nodes) ∙ up_is c.args.table.now.up c.args.name.now c.args.table.now.copies
