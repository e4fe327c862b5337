use Rattle.cluster_core.proofs.Keeping.{keeps_same, on_err}
use Rattle.cluster_core.proofs.state.State.act.Goals as goal

pub returns-in-Some-Fail-clause-keeps : goal.returns-in-Some-Fail-clause-keeps
returns-in-Some-Fail-clause-keeps g c =
    on_err c.fail_on.result (keeps_same (g.F.Functions.meaning c.args.functions.now) c.args.self.now.setup (g.D.Disks.shows_damage c.args.disks.now) (g.D.Disks.told c.args.disks.now) c.args.self.now.kept c.fail_on.new.self.kept c.fail_on.ensures.table c.fail_on.ensures.values c.fail_on.ensures.round)
