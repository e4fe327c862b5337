use Rattle.std.proofs.Common.{sym, ap, ◌∙◌}
use Rattle.replica_table.specs.Copies.{up_holders}
use Rattle.run_model.specs.Needs.{View}
use Rattle.run_model.proofs.Bare.{bare_up}
use Rattle.loop_scheduler.proofs.view.View.where_is.Goals as goal

pub returns : goal.returns
returns c = c.where_is.ensures.nodes ∙ sym (bare_up c.args.name.now c.self.inside.table.now.up c.self.inside.table.now.copies) ∙ ap (λ (v : View). up_holders c.args.name.now v.up v.copies) c.self.view_is
