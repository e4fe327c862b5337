use Rattle.std.proofs.Common.{ap, sym, ◌∙◌}
use Rattle.replica_table.specs.Sets.{among, members}
use Rattle.loop_scheduler.proofs.Choices.{passing_pass}
use Rattle.loop_scheduler.proofs.view.View.new.Goals as goal

pub invariant_of-result : goal.invariant_of-result
invariant_of-result c = (c.requires, λ node e. sym (ap (among node) c.up.ensures.nodes) ∙ passing_pass (λ it. among it (members c.up.result.0)) node (members c.args.idle.0) (sym (ap (among node) c.both.ensures) ∙ e))
