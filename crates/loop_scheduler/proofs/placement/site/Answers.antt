use Rattle.std.proofs.Common.{None, Some, ◌≡◌, true, [], IfNone, IfSome, sym}
use Rattle.replica_table.specs.Sets.{among}
use Rattle.run_model.specs.Sites.{site}
use Rattle.loop_scheduler.proofs.Held.{site_idle, site_none}
use Rattle.loop_scheduler.proofs.placement.site.Goals as goal

pub returns-clause-none : goal.returns-clause-none
returns-clause-none c = elim c.chosen.result as (λ o. o ≡ site c.args.view.now c.args.task.now → IfNone o (c.args.view.now.idle ≡ [])) [
  | None ↦ λ e. site_none c.args.view.now c.args.task.now (sym e)
  | Some node ↦ λ e. tt
] c.chosen.ensures

pub returns-clause-idle : goal.returns-clause-idle
returns-clause-idle c = elim c.chosen.result as (λ o. o ≡ site c.args.view.now c.args.task.now → IfSome o (λ node. among node c.args.view.now.idle ≡ true)) [
  | None ↦ λ e. tt
  | Some node ↦ λ e. site_idle c.args.view.now c.args.task.now node (sym e)
] c.chosen.ensures
