use Rattle.std.proofs.Common.{ap, ◌∙◌}
use Rattle.replica_table.specs.Sets.{among}
use Rattle.loop_scheduler.proofs.Held.{holds_up}
use Rattle.cache_rebuild.proofs.needs.holds.Goals as goal

pub returns : goal.returns
returns c = c.has.ensures ∙ ap (among c.args.node) c.where_is.ensures ∙ holds_up c.args.view.now c.args.node c.args.name.now c.requires
